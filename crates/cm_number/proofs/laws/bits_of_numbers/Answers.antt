use Rattle.cm_number.proofs.Public.{cast_unsigned-lt, to_unsigned_is, cast_unsigned-to_signed, cast_signed_is}
use Rattle.cm_number.proofs.laws.bits_of_numbers.Goals as goal

pub returns-clause-below : goal.returns-clause-below
returns-clause-below c = cast_unsigned-lt

pub returns-clause-unsigned : goal.returns-clause-unsigned
returns-clause-unsigned c = to_unsigned_is

pub returns-clause-converted : goal.returns-clause-converted
returns-clause-converted c = cast_unsigned-to_signed

pub returns-clause-signed : goal.returns-clause-signed
returns-clause-signed c = cast_signed_is
