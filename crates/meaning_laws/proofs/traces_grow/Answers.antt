use Rattle.meaning_laws.proofs.Runs.{stops_grow}
use Rattle.meaning_laws.proofs.traces_grow.Goals as goal

pub returns : goal.returns
returns c = stops_grow
