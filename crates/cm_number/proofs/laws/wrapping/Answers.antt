use Rattle.cm_number.proofs.Public.{to_signed_fits, to_signed-to_signed, to_signed-narrow, to_signed-add_left, to_signed-add_right, to_signed-sub_left, to_signed-sub_right, to_signed-mul_left, to_signed-mul_right, to_signed-neg, floor_modulus-to_signed}
use Rattle.cm_number.proofs.laws.wrapping.Goals as goal

pub returns-clause-fits : goal.returns-clause-fits
returns-clause-fits c = to_signed_fits

pub returns-clause-twice : goal.returns-clause-twice
returns-clause-twice c = to_signed-to_signed

pub returns-clause-narrower : goal.returns-clause-narrower
returns-clause-narrower c = to_signed-narrow

pub returns-clause-add_left : goal.returns-clause-add_left
returns-clause-add_left c = to_signed-add_left

pub returns-clause-add_right : goal.returns-clause-add_right
returns-clause-add_right c = to_signed-add_right

pub returns-clause-sub_left : goal.returns-clause-sub_left
returns-clause-sub_left c = to_signed-sub_left

pub returns-clause-sub_right : goal.returns-clause-sub_right
returns-clause-sub_right c = to_signed-sub_right

pub returns-clause-mul_left : goal.returns-clause-mul_left
returns-clause-mul_left c = to_signed-mul_left

pub returns-clause-mul_right : goal.returns-clause-mul_right
returns-clause-mul_right c = to_signed-mul_right

pub returns-clause-neg : goal.returns-clause-neg
returns-clause-neg c = to_signed-neg

pub returns-clause-modulus : goal.returns-clause-modulus
returns-clause-modulus c = floor_modulus-to_signed
