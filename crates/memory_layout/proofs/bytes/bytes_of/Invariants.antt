use Rattle.std.proofs.Common.{◌≡◌, ◌≤◌, ◌-◌, ◌^◌, ◌+◌, length}
use Rattle.cm_core.specs.Sizes as sizes
use Rattle.memory_layout.specs.Held.{held}
use Rattle.memory_layout.proofs.bytes.bytes_of.Given as goal

abbrev pub invariant-loop-first : goal.invariant-loop-first
invariant-loop-first l = (held (l.count + sizes.bytes_of l.rest) ≡ held (sizes.bytes_of l.shape)) × (l.count ≤ 2 ^ 64 - 1)

abbrev pub decreases-loop-first : goal.decreases-loop-first
decreases-loop-first l = length l.rest
