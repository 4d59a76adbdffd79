-- What is answered for counts, of the elements of an array and the values of a `wrap` or `clamp`, and for the types with them.
use Rattle.std.specs.Prelude.{ℕ, ◌≡◌, true, List, [], ◌∷◌, ◌++◌, flat_map, Option, Some, Result, Ok, Err}
use Rattle.cm_base.specs.HostEnds.{IsCount}
use Rattle.cm_base.specs.declared.cause.Cause.TheVariants as cause
use Rattle.cm_base.specs.declared.place.Place.{Place}
use Rattle.cm_base.specs.declared.failure.Fail.{Fail}
use Rattle.cm_tree.specs.declared.path.Path.{Path}
use Rattle.cm_tree.specs.declared.expr.Expr.{Expr}
use Rattle.cm_tree.specs.declared.expr.Base.{Base}
use Rattle.cm_types.specs.declared.cm_type.CmType.{CmType as CodeType}
use Rattle.cm_types.specs.Meant.{meant_type}
use Rattle.cm_meaning.specs.Scopes.{Around}
use Rattle.cm_meaning.specs.Sites.{base_sites}
use Rattle.cm_meaning.specs.Faults.{Fault, unless}
use Rattle.cm_meaning.specs.Types.{CmType, Array}
use Rattle.cm_meaning.specs.Conversions.{Valued, is_number, known}
use Rattle.cm_meaning.specs.Constants.{count_in, eval, base_type}
use Rattle.cm_meaning.specs.TypeOf.{Knowledge}
use Rattle.cm_meaning.specs.Demands.{counted_demands, base_demands}
use Rattle.cm_meaning.specs.TypeRows.{number_rows, is_count, type_rows}
use Rattle.const_values.specs.declared.names.Argument.{Argument}
use Rattle.const_values.specs.Names.{Known, AgreesOn}
use Rattle.const_values.specs.Literals.{base_fits}
use Rattle.const_values.specs.Answers.{Refuses, Stands}
use Rattle.const_values.specs.Arguments.{AllStand}

-- what can be wrong with the value of a count, at its place
abbrev pub number_faults : Place → Valued → List Fault
number_faults p v = unless (is_number v.ty) cause.TypeMismatch p ++ number_rows is_count cause.SizeRange (known v) p

-- none of these faults and this number, or else one of the faults
abbrev pub GivesNumber : List Fault → Option ℕ → Result ℕ Fail → Type 0
GivesNumber faults number (Ok n) = (faults ≡ []) × (number ≡ Some n)
GivesNumber faults number (Err x) = Refuses faults x

-- what is wrong with an expression where a count is needed
abbrev pub count_faults : Around → Knowledge → Expr → List Fault
count_faults r k a = flat_map (type_rows k) (counted_demands r a)

pub record TellsCount (finds : Path → Known) (args : List Argument) (a : Expr) (result : Result ℕ Fail) : Type 0 where
  pub told : (r : Around) (k : Knowledge) → Stands finds args r k a → GivesNumber (count_faults r k a) (count_in (eval r k.look a)) result

-- the counts of an array's type
abbrev pub AreCounts : Around → Knowledge → List Expr → List ℕ → Type 0
AreCounts r k [] [] = Unit {0}
AreCounts r k (a ∷ all) (n ∷ counts) = ((count_faults r k a ≡ []) × (count_in (eval r k.look a) ≡ Some n)) × AreCounts r k all counts
AreCounts r k _ _ = ⊥

abbrev pub GivesCounts : Around → Knowledge → List Expr → Result (List ℕ) Fail → Type 0
GivesCounts r k all (Ok counts) = AreCounts r k all counts
GivesCounts r k all (Err x) = Refuses (flat_map (count_faults r k) all) x

pub record TellsCounts (finds : Path → Known) (args : List Argument) (all : List Expr) (result : Result (List ℕ) Fail) : Type 0 where
  pub told : (r : Around) (k : Knowledge) → AllStand finds args r k all → GivesCounts r k all result

abbrev pub AreLawfulCounts : List ℕ → Type 0
AreLawfulCounts [] = Unit {0}
AreLawfulCounts (n ∷ counts) = IsCount n × AreLawfulCounts counts

-- `T[a][b]` is `a` elements of `T[b]`
abbrev pub array_of : CmType → List ℕ → CmType
array_of t [] = t
array_of t (n ∷ counts) = Array n (array_of t counts)

-- ---- base types

-- the answers about the names of a base type's count are right
pub record BaseStands (finds : Path → Known) (args : List Argument) (r : Around) (k : Knowledge) (t : Base) : Type 0 where
  pub agrees : AgreesOn finds args k.look (base_sites r t)
  pub literals : base_fits t ≡ true

-- what is wrong with it
abbrev pub base_faults : Around → Knowledge → Base → List Fault
base_faults r k t = flat_map (type_rows k) (base_demands r t)

abbrev pub GivesType : List Fault → Option CmType → Result CodeType Fail → Type 0
GivesType faults ty (Ok t) = (faults ≡ []) × (ty ≡ Some (meant_type t))
GivesType faults ty (Err x) = Refuses faults x

pub record TellsBase (finds : Path → Known) (args : List Argument) (t : Base) (result : Result CodeType Fail) : Type 0 where
  pub told : (r : Around) (k : Knowledge) → BaseStands finds args r k t → GivesType (base_faults r k t) (base_type r k.look t) result
