use Rattle.cm_core.proofs.Leaves.{sums_cleared}
use Rattle.cm_core.proofs.laws.sums_are_cleared.Goals as goal

pub returns : goal.returns
returns c = sums_cleared
