use Rattle.cm_number.proofs.Public.{wrap_i64_is, extend_i32_s_is, extend_i32_u_is, to_wrap_is, nearest_is}
use Rattle.cm_number.proofs.laws.conversion_instructions.Goals as goal

pub returns-clause-wrap_i64 : goal.returns-clause-wrap_i64
returns-clause-wrap_i64 c = wrap_i64_is

pub returns-clause-extend_i32_s : goal.returns-clause-extend_i32_s
returns-clause-extend_i32_s c = extend_i32_s_is

pub returns-clause-extend_i32_u : goal.returns-clause-extend_i32_u
returns-clause-extend_i32_u c = extend_i32_u_is

pub returns-clause-to_wrap : goal.returns-clause-to_wrap
returns-clause-to_wrap c = to_wrap_is

pub returns-clause-nearest : goal.returns-clause-nearest
returns-clause-nearest c = nearest_is
