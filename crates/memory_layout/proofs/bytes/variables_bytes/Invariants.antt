use Rattle.std.proofs.Common.{◌≡◌, ◌≤◌, ◌-◌, ◌^◌, ◌+◌, length, sum_by}
use Rattle.cm_core.specs.declared.unit.Var.{Var}
use Rattle.cm_core.specs.Sizes.{bytes_of}
use Rattle.memory_layout.specs.Held.{held}
use Rattle.memory_layout.proofs.bytes.variables_bytes.Given as goal

abbrev pub invariant-loop-first : goal.invariant-loop-first
invariant-loop-first l =
    (held (l.count + sum_by (λ (v : Var). bytes_of v.shape) l.rest) ≡ held (sum_by (λ (v : Var). bytes_of v.shape) l.all)) × (l.count ≤ 2 ^ 64 - 1)

abbrev pub decreases-loop-first : goal.decreases-loop-first
decreases-loop-first l = length l.rest
