use Rattle.std.proofs.Common.{◌≡◌, ℕ, ◌+◌, ◌<◌, ◌≤◌, length, take, get_or, true}
use Rattle.graph_search.specs.Edges.{member, IsBefore}
use Rattle.graph_search.proofs.ranking.ranks.Given as goal

abbrev pub invariant-loop-node : goal.invariant-loop-node
invariant-loop-node l = record {
  len : length l.ranks.items ≡ l.count;
  left : l.left + l.node-index ≡ l.count;
  high : (q : ℕ) → member q (take l.node-index l.nodes) ≡ true → l.left ≤ get_or l.ranks.items q 0;
  below : (q : ℕ) → get_or l.ranks.items q 0 ≤ l.count;
  falls : (p q : ℕ) → IsBefore l.edges p q → member q (take l.node-index l.nodes) ≡ true → get_or l.ranks.items q 0 < get_or l.ranks.items p 0;
}
