use Rattle.std.proofs.Common.{◌≡◌, ◌≤◌, ◌-◌, ◌^◌, ◌+◌, length, sum_by}
use Rattle.cm_core.specs.declared.unit.Var.{Var}
use Rattle.cm_core.specs.Measures.{first_size}
use Rattle.memory_layout.specs.Held.{held}
use Rattle.memory_layout.specs.Scales.{scale_of}
use Rattle.memory_layout.proofs.units.state_size.Given as goal

abbrev pub invariant-loop-first : goal.invariant-loop-first
invariant-loop-first l =
    (held (l.size + sum_by (λ (v : Var). first_size (scale_of l.scale) v.first) l.rest) ≡ held (sum_by (λ (v : Var). first_size (scale_of l.scale) v.first) l.state))
    × (l.size ≤ 2 ^ 64 - 1)

abbrev pub decreases-loop-first : goal.decreases-loop-first
decreases-loop-first l = length l.rest
