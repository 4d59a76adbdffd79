use Rattle.graph_order.proofs.Unique.{unique}
use Rattle.graph_order.proofs.laws.order_is_unique.Goals as goal

pub returns : goal.returns
returns c = unique
