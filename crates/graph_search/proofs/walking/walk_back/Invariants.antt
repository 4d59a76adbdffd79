use Rattle.std.proofs.Common.{◌≡◌, ℕ, ◌+◌, ◌-◌, ◌<◌, length, vec_len, get_or, nat_eq, false, true}
use Rattle.std.specs.List.{IsDistinct}
use Rattle.graph_search.specs.Edges.{member}
use Rattle.graph_search.proofs.walking.walk_back.Given as goal

abbrev pub invariant-loop-seen : goal.invariant-loop-seen
invariant-loop-seen l = record {
  len : vec_len l.seen ≡ length l.before;
  at : (l.at < length l.before) × (0 < get_or l.unmet l.at 0);
  seen : (q : ℕ) → get_or l.seen.items q false ≡ member q l.path.items;
  distinct : IsDistinct nat_eq l.path.items;
  below : (q : ℕ) → member q l.path.items ≡ true → q < length l.before;
  blocked : (i : ℕ) → i < length l.path.items → 0 < get_or l.unmet (get_or l.path.items i 0) 0;
  steps : (i : ℕ) → i + 1 < length l.path.items → get_or l.before (get_or l.path.items i 0) 0 ≡ get_or l.path.items (i + 1) 0;
  last : 0 < length l.path.items → get_or l.before (get_or l.path.items (length l.path.items - 1) 0) 0 ≡ l.at;
}

abbrev pub decreases-loop-seen : goal.decreases-loop-seen
decreases-loop-seen l = length l.before - length l.path.items
