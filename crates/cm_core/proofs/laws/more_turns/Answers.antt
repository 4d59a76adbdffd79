use Rattle.cm_core.proofs.Runs.{stops_later}
use Rattle.cm_core.proofs.laws.more_turns.Goals as goal

pub returns : goal.returns
returns c = stops_later
