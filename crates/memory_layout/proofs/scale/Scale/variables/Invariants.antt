use Rattle.std.proofs.Common.{◌≡◌, ◌≤◌, ◌-◌, ◌^◌, ◌+◌, length, max, sum_by}
use Rattle.cm_core.specs.declared.unit.Var.{Var}
use Rattle.cm_core.specs.Types.{count_of}
use Rattle.memory_layout.specs.Held.{held}
use Rattle.memory_layout.proofs.scale.Scale.variables.Given as goal

abbrev pub invariant-loop-first : goal.invariant-loop-first
invariant-loop-first l =
    (l.count ≤ 2 ^ 64 - 1) × (held (l.count + sum_by (λ (p : Var). max 1 (count_of l.self.structs.now p.ty)) l.rest) ≡ held (sum_by (λ (p : Var). max 1 (count_of l.self.structs.now p.ty)) l.all))

abbrev pub decreases-loop-first : goal.decreases-loop-first
decreases-loop-first l = length l.rest
