use Rattle.graph_search.proofs.Unique.{unique}
use Rattle.graph_search.proofs.laws.order_is_unique.Goals as goal

pub returns : goal.returns
returns c = unique
