use Rattle.saved_state.proofs.Whole.{written_once}
use Rattle.saved_state.proofs.laws.reads_back.Goals as goal

pub returns : goal.returns
returns c = written_once
