use Rattle.std.proofs.Common.{◌≡◌, ◌≤◌, ◌-◌, ◌^◌, ◌+◌, length, sum_by}
use Rattle.cm_core.specs.Types.{known_count}
use Rattle.memory_layout.specs.Held.{held}
use Rattle.memory_layout.proofs.structs.fields_scalars.Given as goal

abbrev pub invariant-loop-first : goal.invariant-loop-first
invariant-loop-first l = (held (l.count + sum_by (known_count l.known) l.rest) ≡ held (sum_by (known_count l.known) l.fields)) × (l.count ≤ 2 ^ 64 - 1)

abbrev pub decreases-loop-first : goal.decreases-loop-first
decreases-loop-first l = length l.rest
