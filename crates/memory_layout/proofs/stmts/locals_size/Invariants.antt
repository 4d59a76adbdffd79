use Rattle.std.proofs.Common.{◌≡◌, ◌≤◌, ◌-◌, ◌^◌, ◌+◌, length}
use Rattle.cm_core.specs.Code.{locals_of}
use Rattle.cm_core.specs.Sizes as sizes
use Rattle.memory_layout.specs.Held.{held}
use Rattle.memory_layout.specs.Scales.{scale_of}
use Rattle.memory_layout.proofs.stmts.locals_size.Given as goal

abbrev pub invariant-loop-first : goal.invariant-loop-first
invariant-loop-first l =
    (held (l.size + sizes.stmts_size (scale_of l.scale) (locals_of l.rest)) ≡ held (sizes.stmts_size (scale_of l.scale) (locals_of l.all))) × (l.size ≤ 2 ^ 64 - 1)

abbrev pub decreases-loop-first : goal.decreases-loop-first
decreases-loop-first l = length l.rest
