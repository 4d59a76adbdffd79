use Rattle.std.proofs.Common.{◌≡◌, ℕ, ◌<◌, true}
use Rattle.graph_search.specs.Edges.{member}
use Rattle.graph_search.proofs.search.order.Given as goal

abbrev pub invariant-loop-node : goal.invariant-loop-node
invariant-loop-node l = (q : ℕ) → q < l.node → member q l.placed.order.items ≡ true
