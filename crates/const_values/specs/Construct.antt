-- Values that are made of others, from constants: the rows of `cm_meaning` where types and values are known.
use Rattle.std.specs.Prelude.{ℕ, ◌≡◌, List, [], ◌∷◌, ◌++◌, flat_map, map, length, if◌then◌else◌, Option, Some, option_map, Result, Ok, Err}
use Rattle.cm_base.specs.declared.cause.Cause.TheVariants as cause
use Rattle.cm_base.specs.declared.place.Place.{Place}
use Rattle.cm_base.specs.declared.failure.Fail.{Fail}
use Rattle.cm_types.specs.declared.value.Value.{Value as CodeValue}
use Rattle.cm_types.specs.Lawful.{IsSound}
use Rattle.cm_types.specs.Meant.{meant_value, meant_values, meant_valued}
use Rattle.cm_meaning.specs.Faults.{Fault, one, unless}
use Rattle.cm_meaning.specs.Types.{CmType, Single, Array, Record, FieldTypes, Field, Value, Values, copies}
use Rattle.cm_meaning.specs.Conversions.{Valued, converts, known, fitted}
use Rattle.cm_meaning.specs.Constants.{elements}
use Rattle.cm_meaning.specs.TypeRows.{is_scalar, takes_count}
use Rattle.const_values.specs.declared.construct.Given.{Given as CodeGiven}
use Rattle.const_values.specs.Answers.{Refuses}

-- a constant with the place of its expression's first token
pub record Given : Type 0 where
  pub place : Place
  pub valued : Valued

abbrev pub meant_given : CodeGiven → Given
meant_given a = record { place = a.place; valued = meant_valued a.one }

abbrev pub meant_givens : List CodeGiven → List Given
meant_givens all = map meant_given all

abbrev pub values_of : List Given → List Valued
values_of all = map (λ (a : Given). a.valued) all

abbrev pub AreSound : List Given → Type 0
AreSound [] = Unit {0}
AreSound (a ∷ all) = IsSound a.valued × AreSound all

-- a value of one type where another is needed
abbrev pub fit_faults : CmType → Given → List Fault
fit_faults t a = unless (converts a.valued.ty t (known a.valued)) cause.TypeMismatch a.place

-- one value for each element
abbrev pub element_faults : CmType → List Given → List Fault
element_faults t all = flat_map (fit_faults t) all

-- one value for each field
unfoldable pub field_faults : FieldTypes → List Given → List Fault
field_faults (Field n t others) (a ∷ all) = fit_faults t a ++ field_faults others all
field_faults _ _ = []

-- a cast takes a number or a truth value
abbrev pub cast_fault : Given → List Fault
cast_fault a = unless (is_scalar a.valued.ty) cause.TypeMismatch a.place

abbrev pub cast_faults : List Given → List Fault
cast_faults (a ∷ []) = cast_fault a
cast_faults _ = []

abbrev pub part_faults : CmType → List Given → List Fault
part_faults (Single kind) all = cast_faults all
part_faults (Array n t) all = element_faults t all
part_faults (Record p fields) all = field_faults fields all

-- what can be wrong with the values that a type is made of; the place is that of the type
abbrev pub made_faults : Place → CmType → List Given → List Fault
made_faults p t all = if takes_count t (length all) then part_faults t all else one cause.ConstructCount p

-- the first of them
abbrev pub IsFirst : CodeGiven → List CodeGiven → Type 0
IsFirst first [] = ⊥
IsFirst first (a ∷ all) = first ≡ a

-- the values of an array of a type: one for all elements, or one for each
abbrev pub parts_of_array : ℕ → CmType → List Valued → Option Values
parts_of_array n t (v ∷ []) = option_map (copies n) (fitted t v)
parts_of_array n t all = elements t all

-- none of these faults and this value, or else one of the faults
abbrev pub GivesValue : List Fault → Option Value → Result CodeValue Fail → Type 0
GivesValue faults value (Ok v) = (faults ≡ []) × (value ≡ Some (meant_value v))
GivesValue faults value (Err x) = Refuses faults x

abbrev pub GivesValues : List Fault → Option Values → Result (List CodeValue) Fail → Type 0
GivesValues faults values (Ok all) = (faults ≡ []) × (values ≡ Some (meant_values all))
GivesValues faults values (Err x) = Refuses faults x
