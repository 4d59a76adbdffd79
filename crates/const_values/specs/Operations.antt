-- What can be wrong with an operation on constants, from their values: the rows of `cm_meaning` where types and values are known.
use Rattle.std.specs.Prelude.{Bool, true, false, if◌then◌else◌, List, [], ◌++◌, Option, Some, is_some, option_and_then}
use Rattle.cm_base.specs.declared.cause.Cause.TheVariants as cause
use Rattle.cm_base.specs.declared.place.Place.{Place}
use Rattle.cm_tree.specs.declared.operator.Unary.{Unary}
use Rattle.cm_tree.specs.declared.operator.Binary.{Binary}
use Rattle.cm_meaning.specs.Faults.{Fault, unless}
use Rattle.cm_meaning.specs.Types.{CmType, number_of}
use Rattle.cm_meaning.specs.Conversions.{Valued, operated, operated_alone, chosen, is_condition, fitted, with_type}
use Rattle.cm_meaning.specs.TypeRows.{operand_rows, is_division, zero_rows}

-- a divisor is other than 0
abbrev pub divisor : Bool → Valued → Place → List Fault
divisor true v p = zero_rows (number_of v.value) p
divisor false v p = []

abbrev pub operation_faults : Binary → Place → Place → Valued → Valued → List Fault
operation_faults op p q a b = operand_rows (operated op) (Some a.ty) (Some b.ty) p ++ divisor (is_division op) b q

abbrev pub alone_faults : Unary → Place → Valued → List Fault
alone_faults op p a = unless (is_some (operated_alone op a.ty)) cause.TypeMismatch p

abbrev pub choice_faults : Place → Valued → Valued → List Fault
choice_faults p a b = unless (is_some (chosen a.ty b.ty)) cause.TypeMismatch p

abbrev pub condition_faults : Place → Valued → List Fault
condition_faults p a = unless (is_condition a.ty) cause.TypeMismatch p

-- the value of one of two arms, in the type of both
abbrev pub arm_value : Bool → Valued → Valued → Option Valued
arm_value first a b = option_and_then (λ (t : CmType). with_type t (fitted t (if first then a else b))) (chosen a.ty b.ty)
