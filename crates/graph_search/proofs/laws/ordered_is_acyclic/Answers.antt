use Rattle.graph_search.proofs.NoCycle.{no_cycle}
use Rattle.graph_search.proofs.laws.ordered_is_acyclic.Goals as goal

pub returns : goal.returns
returns c = no_cycle
