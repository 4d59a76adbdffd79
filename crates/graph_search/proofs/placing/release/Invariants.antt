use Rattle.std.proofs.Common.{◌≡◌, ℕ, ◌+◌, vec_len, take, get_or}
use Rattle.std.specs.Prelude.{◌||◌, ◌&&◌, ◌==◌, nat_lt}
use Rattle.std.specs.BTreeSet.{contains}
use Rattle.std.specs.Ordering.{nat_cmp}
use Rattle.graph_search.specs.Counts.{count_of}
use Rattle.graph_search.proofs.placing.release.Given as goal

abbrev pub invariant-loop-node : goal.invariant-loop-node
invariant-loop-node l = record {
  len : vec_len l.unmet ≡ vec_len l.initial.unmet;
  counts : (q : ℕ) → get_or l.unmet.items q 0 + count_of q (take l.node-index l.next) ≡ get_or l.initial.unmet.items q 0;
  ready : (q : ℕ) → contains nat_cmp l.ready q ≡ (contains nat_cmp l.initial.ready q || (nat_lt 0 (count_of q (take l.node-index l.next)) && (get_or l.unmet.items q 0 == 0)));
}
