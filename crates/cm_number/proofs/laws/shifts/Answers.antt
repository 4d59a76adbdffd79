use Rattle.cm_number.proofs.Public.{floor_quotient_only, left_shift_only, right_shift_only, zero_filled_shift_only, shift_amount-lt, shift_amount-cast_unsigned, shift_amount-to_signed}
use Rattle.cm_number.proofs.laws.shifts.Goals as goal

pub returns-clause-floor_quotient : goal.returns-clause-floor_quotient
returns-clause-floor_quotient c = floor_quotient_only

pub returns-clause-left : goal.returns-clause-left
returns-clause-left c = left_shift_only

pub returns-clause-right : goal.returns-clause-right
returns-clause-right c = right_shift_only

pub returns-clause-right_zero : goal.returns-clause-right_zero
returns-clause-right_zero c = zero_filled_shift_only

pub returns-clause-amount : goal.returns-clause-amount
returns-clause-amount c = shift_amount-lt

pub returns-clause-amount_from_bits : goal.returns-clause-amount_from_bits
returns-clause-amount_from_bits c = shift_amount-cast_unsigned

pub returns-clause-amount_wrapped : goal.returns-clause-amount_wrapped
returns-clause-amount_wrapped c = shift_amount-to_signed
