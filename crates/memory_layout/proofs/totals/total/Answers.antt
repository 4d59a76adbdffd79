use Rattle.std.proofs.Common.{rules, refl, arith}
use Rattle.memory_layout.proofs.Sums.{total_step}
use Rattle.memory_layout.proofs.totals.total.Goals as goal

pub loop-first-preserved : goal.loop-first-preserved
loop-first-preserved g c = (
  omega arith,
  (
    search rules,
    λ counted counts.
        total_step counted c.in-Some.first.now c.loop-first.rest.now c.in-Some.others.now c.loop-first.sum c.count.result c.saturating_add-sum.result _ (search rules)
        (counts c.in-Some.first.now c.count.result (record { shown = c.in-Some.first; shows = refl; says = record { met = c.count.ensures } })) c.saturating_add-sum.ensures
        (c.loop-first.invariant.1.1 counted counts),
  ),
)
