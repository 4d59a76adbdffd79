use Rattle.cm_number.proofs.Public.{to_signed_only, to_unsigned_only, floor_modulus_only, to_wrap_only, nearest_only, to_clamp_only, to_bool_only}
use Rattle.cm_number.proofs.laws.conversions.Goals as goal

pub returns-clause-to_signed : goal.returns-clause-to_signed
returns-clause-to_signed c = to_signed_only

pub returns-clause-to_unsigned : goal.returns-clause-to_unsigned
returns-clause-to_unsigned c = to_unsigned_only

pub returns-clause-floor_modulus : goal.returns-clause-floor_modulus
returns-clause-floor_modulus c = floor_modulus_only

pub returns-clause-to_wrap : goal.returns-clause-to_wrap
returns-clause-to_wrap c = to_wrap_only

pub returns-clause-nearest : goal.returns-clause-nearest
returns-clause-nearest c = nearest_only

pub returns-clause-to_clamp : goal.returns-clause-to_clamp
returns-clause-to_clamp c = to_clamp_only

pub returns-clause-to_bool : goal.returns-clause-to_bool
returns-clause-to_bool c = to_bool_only
