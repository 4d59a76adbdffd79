use Rattle.std.proofs.Common.{◌≡◌, ℕ, vec_len, [], take, get_or}
use Rattle.graph_search.specs.Orders.{unmet_of}
use Rattle.graph_search.proofs.placing.degrees.Given as goal

abbrev pub invariant-loop-edge : goal.invariant-loop-edge
invariant-loop-edge l = (vec_len l.counts ≡ l.count) × ((q : ℕ) → get_or l.counts.items q 0 ≡ unmet_of (take l.edge-index l.edges) [] q)
