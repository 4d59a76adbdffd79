use Rattle.meaning_laws.proofs.Leaves.{sums_cleared}
use Rattle.meaning_laws.proofs.sums_are_cleared.Goals as goal

pub returns : goal.returns
returns c = sums_cleared
