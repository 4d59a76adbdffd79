-- Elements of constant arrays.
use Rattle.std.specs.Prelude.{ℕ, zero, suc, nat_lt, if◌then◌else◌, ℤ, pos, negsuc, List, ◌++◌, Option, Some, None, is_some, option_and_then}
use Rattle.cm_base.specs.declared.cause.Cause.TheVariants as cause
use Rattle.cm_base.specs.declared.place.Place.{Place}
use Rattle.cm_meaning.specs.Faults.{Fault, unless}
use Rattle.cm_meaning.specs.Types.{CmType, Array, Value, Many, Values, NoValues, Then, number_of}
use Rattle.cm_meaning.specs.Conversions.{Valued, is_number, known}
use Rattle.cm_meaning.specs.TypeOf.{element_type}
use Rattle.cm_meaning.specs.TypeRows.{range_rows}

-- how many elements an array has
abbrev pub array_count : CmType → ℕ
array_count (Array n t) = n
array_count _ = 0

-- the value at a position
unfoldable pub at_in : Values → ℕ → Option Value
at_in NoValues i = None
at_in (Then v vs) zero = Some v
at_in (Then v vs) (suc i) = at_in vs i

abbrev pub part_at : Value → ℕ → Option Value
part_at (Many all) k = at_in all k
part_at _ k = None

-- at a number, where the array has it
abbrev pub at_number : Valued → ℤ → Option Value
at_number a (pos k) = if nat_lt k (array_count a.ty) then part_at a.value k else None
at_number a (negsuc k) = None

abbrev pub indexed_value : Valued → Valued → Option Value
indexed_value a i = option_and_then (at_number a) (number_of i.value)

-- what can be wrong with a constant index, at the places of the selection and of the index
abbrev pub index_faults : Place → Place → Valued → Valued → List Fault
index_faults p q a i =
    unless (is_some (element_type a.ty)) cause.NotIndexable p ++ (unless (is_number i.ty) cause.TypeMismatch q ++ range_rows (Some a.ty) (known i) q)
