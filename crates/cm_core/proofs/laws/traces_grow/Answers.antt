use Rattle.cm_core.proofs.Runs.{stops_grow}
use Rattle.cm_core.proofs.laws.traces_grow.Goals as goal

pub returns : goal.returns
returns c = stops_grow
