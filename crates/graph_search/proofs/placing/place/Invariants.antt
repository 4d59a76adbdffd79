use Rattle.std.proofs.Common.{◌≡◌, ◌&&◌, ◌==◌, nat_lt, true, not, ℕ, ◌<◌, length, vec_len, get_or, ◌-◌, nat_eq}
use Rattle.std.specs.BTreeSet.{contains}
use Rattle.std.specs.List.{IsDistinct}
use Rattle.std.specs.Ordering.{nat_cmp}
use Rattle.graph_search.specs.Orders.{unmet_of, IsPlaced}
use Rattle.graph_search.specs.Edges.{member}
use Rattle.graph_search.proofs.placing.place.Given as goal

abbrev pub invariant-loop-node : goal.invariant-loop-node
invariant-loop-node l = record {
  len : vec_len l.unmet ≡ l.count;
  counts : (q : ℕ) → get_or l.unmet.items q 0 ≡ unmet_of l.edges l.order.items q;
  ready : (q : ℕ) → contains nat_cmp l.ready q ≡ (nat_lt q l.count && (not (member q l.order.items) && (unmet_of l.edges l.order.items q == 0)));
  placed : IsPlaced l.edges l.count l.order.items;
  met : (q : ℕ) → member q l.order.items ≡ true → unmet_of l.edges l.order.items q ≡ 0;
  distinct : IsDistinct nat_eq l.order.items;
  below : (q : ℕ) → member q l.order.items ≡ true → q < l.count;
}

abbrev pub decreases-loop-node : goal.decreases-loop-node
decreases-loop-node l = l.count - length l.order.items
