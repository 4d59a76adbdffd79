-- What is answered for a type that is written.
use Rattle.std.specs.Prelude.{◌≡◌, true, Bool, ◌&&◌, List, flat_map, Some, Result}
use Rattle.std.specs.List.{list_all}
use Rattle.cm_base.specs.declared.place.Place.{Place}
use Rattle.cm_base.specs.declared.failure.Fail.{Fail}
use Rattle.cm_tree.specs.declared.path.Path.{Path}
use Rattle.cm_tree.specs.declared.type_expr.TypeExpr.{TypeExpr}
use Rattle.cm_tree.specs.declared.type_expr.TypeExpr.TheVariants as y
use Rattle.cm_types.specs.declared.cm_type.CmType.{CmType as CodeType}
use Rattle.cm_meaning.specs.Scopes.{Around, find}
use Rattle.cm_meaning.specs.Sites.{type_sites}
use Rattle.cm_meaning.specs.Faults.{Fault}
use Rattle.cm_meaning.specs.Types.{CmType}
use Rattle.cm_meaning.specs.Constants.{type_of_expr}
use Rattle.cm_meaning.specs.TypeOf.{Knowledge, is_type_name}
use Rattle.cm_meaning.specs.Demands.{type_demands}
use Rattle.cm_meaning.specs.TypeRows.{type_rows}
use Rattle.const_values.specs.declared.names.Argument.{Argument}
use Rattle.const_values.specs.Names.{Known, AgreesOn}
use Rattle.const_values.specs.Literals.{literals_fit, base_fits}
use Rattle.const_values.specs.Arguments.{small_faults}
use Rattle.const_values.specs.Sizes.{GivesType}

-- each literal in a type fits
abbrev pub type_fits : TypeExpr → Bool
type_fits (y.Base t sizes) = base_fits t && list_all literals_fit sizes
type_fits (y.Named q sizes) = list_all literals_fit sizes

-- the name of a named type is one of a type
abbrev pub NamesType : Around → TypeExpr → Type 0
NamesType r (y.Base t sizes) = Unit {0}
NamesType r (y.Named q sizes) = is_type_name (find r q) ≡ true

-- the answers about its names are right, and nothing is wrong with its name
pub record TypeStands (finds : Path → Known) (args : List Argument) (r : Around) (k : Knowledge) (ty : TypeExpr) : Type 0 where
  pub agrees : AgreesOn finds args k.look (type_sites r ty)
  pub literals : type_fits ty ≡ true
  pub named : NamesType r ty

-- what is wrong with it
abbrev pub type_faults : Around → Knowledge → TypeExpr → List Fault
type_faults r k ty = flat_map (type_rows k) (type_demands r ty)

pub record TellsType (finds : Path → Known) (args : List Argument) (ty : TypeExpr) (result : Result CodeType Fail) : Type 0 where
  pub told : (r : Around) (k : Knowledge) → TypeStands finds args r k ty → GivesType (type_faults r k ty) (type_of_expr r k.look ty) result

-- a type at a place, unless it has too many scalars
abbrev pub GivesSmall : Place → CmType → Result CodeType Fail → Type 0
GivesSmall p t result = GivesType (small_faults p t) (Some t) result
