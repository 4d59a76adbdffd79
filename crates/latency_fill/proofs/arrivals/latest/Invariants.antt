use Rattle.std.proofs.Common.{◌≡◌, ◌⊎◌, ℕ, ◌+◌, ◌≤◌, take, get_or, true}
use Rattle.graph_search.specs.Edges.{member}
use Rattle.latency_fill.specs.Walks.{latency_in}
use Rattle.latency_fill.proofs.arrivals.latest.Given as goal

abbrev pub invariant-loop-leaf : goal.invariant-loop-leaf
invariant-loop-leaf l = record {
  upper : (p : ℕ) → member p (take l.leaf-index l.before) ≡ true → get_or l.arrive p 0 + latency_in l.leaves p ≤ l.most;
  attained : (l.most ≡ 0) ⊎ ((p : ℕ) × (member p l.before ≡ true) × (get_or l.arrive p 0 + latency_in l.leaves p ≡ l.most));
}
