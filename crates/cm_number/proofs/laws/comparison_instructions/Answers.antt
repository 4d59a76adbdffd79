use Rattle.cm_number.proofs.Public.{eq_is, lt_s_is, le_s_is, gt_s_is, ge_s_is, eqz_is}
use Rattle.cm_number.proofs.laws.comparison_instructions.Goals as goal

pub returns-clause-eq : goal.returns-clause-eq
returns-clause-eq c = eq_is

pub returns-clause-lt_s : goal.returns-clause-lt_s
returns-clause-lt_s c = lt_s_is

pub returns-clause-le_s : goal.returns-clause-le_s
returns-clause-le_s c = le_s_is

pub returns-clause-gt_s : goal.returns-clause-gt_s
returns-clause-gt_s c = gt_s_is

pub returns-clause-ge_s : goal.returns-clause-ge_s
returns-clause-ge_s c = ge_s_is

pub returns-clause-eqz : goal.returns-clause-eqz
returns-clause-eqz c = eqz_is
