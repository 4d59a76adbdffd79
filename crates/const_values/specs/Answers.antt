-- What is answered for a constant expression.
use Rattle.std.specs.Prelude.{◌≡◌, Bool, true, List, [], flat_map, Option, Some, Result, Ok, Err}
use Rattle.cm_base.specs.declared.failure.Fail.{Fail}
use Rattle.cm_base.specs.declared.failure.Fail.TheVariants as fail
use Rattle.cm_tree.specs.declared.path.Path.{Path}
use Rattle.cm_tree.specs.declared.expr.Expr.{Expr}
use Rattle.cm_types.specs.declared.valued.Valued.{Valued as CodeValued}
use Rattle.cm_types.specs.Meant.{meant_type, meant_valued}
use Rattle.cm_meaning.specs.Scopes.{Around}
use Rattle.cm_meaning.specs.Sites.{expr_sites}
use Rattle.cm_meaning.specs.Faults.{Fault, fault}
use Rattle.cm_meaning.specs.Types.{CmType}
use Rattle.cm_meaning.specs.Conversions.{Valued}
use Rattle.cm_meaning.specs.Constants.{eval}
use Rattle.cm_meaning.specs.TypeOf.{Knowledge, type_of, is_constant}
use Rattle.cm_meaning.specs.Demands.{expr_demands}
use Rattle.cm_meaning.specs.MemberDemands.{constant_demands}
use Rattle.cm_meaning.specs.TypeRows.{type_rows}
use Rattle.cm_meaning.specs.Exact.{In}
use Rattle.const_values.specs.declared.names.Argument.{Argument}
use Rattle.const_values.specs.Names.{Known, AgreesOn}
use Rattle.const_values.specs.Literals.{literals_fit}

-- one of these faults, unless memory runs out
abbrev pub Refuses : List Fault → Fail → Type 0
Refuses faults (fail.Refused f) = In (fault f.cause f.place) faults
Refuses faults fail.NoMemory = Unit {0}

-- none of these faults and this value of this type, or else one of the faults
abbrev pub Gives : List Fault → Option Valued → Option CmType → Result CodeValued Fail → Type 0
Gives faults value ty (Ok v) = (faults ≡ []) × ((value ≡ Some (meant_valued v)) × (ty ≡ Some (meant_type v.ty)))
Gives faults value ty (Err x) = Refuses faults x

-- what is wrong with an expression in itself
abbrev pub own_faults : Around → Knowledge → Expr → List Fault
own_faults r k a = flat_map (type_rows k) (expr_demands r a)

-- what is wrong with it where a constant is needed
abbrev pub constant_faults : Around → Knowledge → Expr → List Fault
constant_faults r k a = flat_map (type_rows k) (constant_demands r a)

-- a place and what is known there, where the answers about an expression's names are right
pub record Stands (finds : Path → Known) (args : List Argument) (r : Around) (k : Knowledge) (a : Expr) : Type 0 where
  pub agrees : AgreesOn finds args k.look (expr_sites r a)
  pub literals : literals_fit a ≡ true

-- whether it is a constant by its form
pub record Judges (finds : Path → Known) (args : List Argument) (a : Expr) (result : Bool) : Type 0 where
  pub told : (r : Around) (k : Knowledge) → Stands finds args r k a → is_constant r a ≡ result

-- the value of what is a constant by its form
pub record Tells (finds : Path → Known) (args : List Argument) (a : Expr) (result : Result CodeValued Fail) : Type 0 where
  pub told : (r : Around) (k : Knowledge) → Stands finds args r k a → is_constant r a ≡ true → Gives (own_faults r k a) (eval r k.look a) (type_of r k a) result

-- the value where a constant is needed
pub record TellsConstant (finds : Path → Known) (args : List Argument) (a : Expr) (result : Result CodeValued Fail) : Type 0 where
  pub told : (r : Around) (k : Knowledge) → Stands finds args r k a → Gives (constant_faults r k a) (eval r k.look a) (type_of r k a) result
