use Rattle.std.proofs.Common.{◌≡◌, ℕ, take, get_or}
use Rattle.std.specs.Prelude.{min, sum_by}
use Rattle.graph_search.proofs.counting.node_count.Given as goal

abbrev pub invariant-loop-node : goal.invariant-loop-node
invariant-loop-node l = l.total ≡ min (sum_by (λ (q : ℕ). get_or l.counts q 0) (take l.node-index l.next)) l.limit
