use Rattle.cm_number.proofs.Public.{to_signed-Fits, widened-Fits, quotient-Fits, left_shift-Fits, right_shift-Fits, zero_filled_shift-Fits, bitwise_and-Fits, bitwise_or-Fits, bitwise_xor-Fits, bitwise_not-Fits, remainder-Fits}
use Rattle.cm_number.proofs.laws.results.Goals as goal

pub returns-clause-to_signed : goal.returns-clause-to_signed
returns-clause-to_signed c = to_signed-Fits

pub returns-clause-widened : goal.returns-clause-widened
returns-clause-widened c = widened-Fits

pub returns-clause-quotient : goal.returns-clause-quotient
returns-clause-quotient c = quotient-Fits

pub returns-clause-remainder : goal.returns-clause-remainder
returns-clause-remainder c = remainder-Fits

pub returns-clause-left_shift : goal.returns-clause-left_shift
returns-clause-left_shift c = left_shift-Fits

pub returns-clause-right_shift : goal.returns-clause-right_shift
returns-clause-right_shift c = right_shift-Fits

pub returns-clause-zero_filled_shift : goal.returns-clause-zero_filled_shift
returns-clause-zero_filled_shift c = zero_filled_shift-Fits

pub returns-clause-bitwise_and : goal.returns-clause-bitwise_and
returns-clause-bitwise_and c = bitwise_and-Fits

pub returns-clause-bitwise_or : goal.returns-clause-bitwise_or
returns-clause-bitwise_or c = bitwise_or-Fits

pub returns-clause-bitwise_xor : goal.returns-clause-bitwise_xor
returns-clause-bitwise_xor c = bitwise_xor-Fits

pub returns-clause-bitwise_not : goal.returns-clause-bitwise_not
returns-clause-bitwise_not c = bitwise_not-Fits
