use Rattle.std.proofs.Common.{ℕ, ◌≡◌, ◌≤◌, ◌-◌, ◌^◌, ◌+◌, length, sum_by}
use Rattle.std.specs.Fn.{FnReturnsAt}
use Rattle.memory_layout.specs.Held.{held}
use Rattle.memory_layout.specs.Totals.{CountsAs}
use Rattle.memory_layout.proofs.totals.total.Given as goal

abbrev pub invariant-loop-first : goal.invariant-loop-first
invariant-loop-first g l =
    (l.sum ≤ 2 ^ 64 - 1)
    × (goal.F-IsAlwaysCallable g l.count
    × ((counted : g.row.T.Denot → ℕ) → CountsAs (FnReturnsAt g.F.Fn l.count) counted → held (l.sum + sum_by counted l.rest) ≡ held (sum_by counted l.all)))

abbrev pub decreases-loop-first : goal.decreases-loop-first
decreases-loop-first g l = length l.rest
