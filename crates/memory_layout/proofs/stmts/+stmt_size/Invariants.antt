use Rattle.std.proofs.Common.{◌≡◌, ◌≤◌, ◌-◌, ◌^◌, ◌+◌, length}
use Rattle.cm_core.specs.Code.{stmt_of}
use Rattle.cm_core.specs.Sizes as sizes
use Rattle.cm_core.specs.Views.{stmts_of}
use Rattle.memory_layout.specs.Held.{held}
use Rattle.memory_layout.specs.Parts.{stmt_parts, stmts_parts}
use Rattle.memory_layout.specs.Scales.{scale_of}
use Rattle.memory_layout.proofs.stmts.+stmt_size.Given as goal

abbrev pub decreases-stmt_size : goal.decreases-stmt_size
decreases-stmt_size l = stmt_parts (stmt_of l.stmt.now)

abbrev pub decreases-stmts_size : goal.decreases-stmts_size
decreases-stmts_size l = stmts_parts (stmts_of l.all.now)

abbrev pub invariant-stmts_size-loop-first : goal.invariant-stmts_size-loop-first
invariant-stmts_size-loop-first l =
    (held (l.size + sizes.stmts_size (scale_of l.scale) (stmts_of l.rest)) ≡ held (sizes.stmts_size (scale_of l.scale) (stmts_of l.all)))
    × ((stmts_parts (stmts_of l.rest) ≤ stmts_parts (stmts_of l.all)) × (l.size ≤ 2 ^ 64 - 1))

abbrev pub decreases-stmts_size-loop-first : goal.decreases-stmts_size-loop-first
decreases-stmts_size-loop-first l = length l.rest
