use Rattle.std.proofs.Common.{◌≡◌, ◌&&◌, ◌==◌, nat_lt, ℕ, get_or}
use Rattle.std.specs.BTreeSet.{contains}
use Rattle.std.specs.Ordering.{nat_cmp}
use Rattle.graph_search.proofs.placing.sources.Given as goal

abbrev pub invariant-loop-node : goal.invariant-loop-node
invariant-loop-node l = (q : ℕ) → contains nat_cmp l.ready q ≡ (nat_lt q l.node && (get_or l.unmet q 0 == 0))
