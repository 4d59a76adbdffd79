use Rattle.cm_number.proofs.Public.{add_is, sub_is, neg_is, mul_is, div_s_is, div_minus_one_is, rem_s_is, rem_minus_one_is, div_u_is, rem_u_is}
use Rattle.cm_number.proofs.laws.arithmetic_instructions.Goals as goal

pub returns-clause-add : goal.returns-clause-add
returns-clause-add c = add_is

pub returns-clause-sub : goal.returns-clause-sub
returns-clause-sub c = sub_is

pub returns-clause-neg : goal.returns-clause-neg
returns-clause-neg c = neg_is

pub returns-clause-mul : goal.returns-clause-mul
returns-clause-mul c = mul_is

pub returns-clause-div_s : goal.returns-clause-div_s
returns-clause-div_s c = div_s_is

pub returns-clause-div_minus_one : goal.returns-clause-div_minus_one
returns-clause-div_minus_one c = div_minus_one_is

pub returns-clause-rem_s : goal.returns-clause-rem_s
returns-clause-rem_s c = rem_s_is

pub returns-clause-rem_minus_one : goal.returns-clause-rem_minus_one
returns-clause-rem_minus_one c = rem_minus_one_is

pub returns-clause-div_u : goal.returns-clause-div_u
returns-clause-div_u c = div_u_is

pub returns-clause-rem_u : goal.returns-clause-rem_u
returns-clause-rem_u c = rem_u_is
