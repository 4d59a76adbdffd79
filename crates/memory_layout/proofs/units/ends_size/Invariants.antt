use Rattle.std.proofs.Common.{◌≡◌, ◌≤◌, ◌-◌, ◌^◌, ◌+◌, length, sum_by}
use Rattle.cm_core.specs.declared.program.End.{End}
use Rattle.cm_core.specs.Sizes as sizes
use Rattle.memory_layout.specs.Held.{held}
use Rattle.memory_layout.proofs.units.ends_size.Given as goal

abbrev pub invariant-loop-first : goal.invariant-loop-first
invariant-loop-first l =
    (held (l.count + sum_by (λ (end : End). sizes.scalars end.shape) l.rest) ≡ held (sum_by (λ (end : End). sizes.scalars end.shape) l.ends)) × (l.count ≤ 2 ^ 64 - 1)

abbrev pub decreases-loop-first : goal.decreases-loop-first
decreases-loop-first l = length l.rest
