use Rattle.std.proofs.Common.{◌≡◌, ◌≤◌, ◌-◌, ◌^◌, ◌+◌, length, sum}
use Rattle.memory_layout.specs.Held.{held}
use Rattle.memory_layout.proofs.totals.sum_of.Given as goal

abbrev pub invariant-loop-first : goal.invariant-loop-first
invariant-loop-first l = (held (l.sum + sum l.rest) ≡ held (sum l.all)) × (l.sum ≤ 2 ^ 64 - 1)

abbrev pub decreases-loop-first : goal.decreases-loop-first
decreases-loop-first l = length l.rest
