use Rattle.meaning_laws.proofs.Leaves.{stays_done}
use Rattle.meaning_laws.proofs.returned_stays.Goals as goal

pub returns : goal.returns
returns c = stays_done
