use Rattle.cm_core.proofs.Leveled.{run_deep}
use Rattle.cm_core.proofs.laws.depth_is_enough.Goals as goal

pub returns : goal.returns
returns c = run_deep
