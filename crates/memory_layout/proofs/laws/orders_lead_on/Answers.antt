use Rattle.memory_layout.proofs.Ahead.{ordered}
use Rattle.memory_layout.proofs.laws.orders_lead_on.Goals as goal

pub returns : goal.returns
returns c = ordered
