use Rattle.cm_core.proofs.Leaves.{stays_done}
use Rattle.cm_core.proofs.laws.returned_stays.Goals as goal

pub returns : goal.returns
returns c = stays_done
