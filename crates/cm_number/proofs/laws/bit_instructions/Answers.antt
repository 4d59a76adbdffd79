use Rattle.cm_number.proofs.Public.{and_is, or_is, xor_is, not_is, shl_is, shr_s_is, shr_u_is}
use Rattle.cm_number.proofs.laws.bit_instructions.Goals as goal

pub returns-clause-and : goal.returns-clause-and
returns-clause-and c = and_is

pub returns-clause-or : goal.returns-clause-or
returns-clause-or c = or_is

pub returns-clause-xor : goal.returns-clause-xor
returns-clause-xor c = xor_is

pub returns-clause-not : goal.returns-clause-not
returns-clause-not c = not_is

pub returns-clause-shl : goal.returns-clause-shl
returns-clause-shl c = shl_is

pub returns-clause-shr_s : goal.returns-clause-shr_s
returns-clause-shr_s c = shr_s_is

pub returns-clause-shr_u : goal.returns-clause-shr_u
returns-clause-shr_u c = shr_u_is
