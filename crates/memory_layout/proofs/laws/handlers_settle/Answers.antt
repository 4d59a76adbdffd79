use Rattle.memory_layout.proofs.Settled.{settled}
use Rattle.memory_layout.proofs.laws.handlers_settle.Goals as goal

pub returns : goal.returns
returns c = settled
