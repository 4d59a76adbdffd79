use Rattle.std.proofs.Common.{◌≡◌, ℕ, ◌<◌, vec_len, take, get_or}
use Rattle.graph_search.specs.Orders.{unmet_of}
use Rattle.graph_search.specs.Counts.{Blocks}
use Rattle.graph_search.proofs.walking.blockers.Given as goal

abbrev pub invariant-loop-edge : goal.invariant-loop-edge
invariant-loop-edge l = (vec_len l.blockers ≡ l.count) × ((q : ℕ) → 0 < unmet_of (take l.edge-index l.edges) l.order q → Blocks l.edges l.count l.order (get_or l.blockers.items q 0) q)
