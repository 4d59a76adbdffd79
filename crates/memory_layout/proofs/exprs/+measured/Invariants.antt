use Rattle.std.proofs.Common.{◌≡◌, ◌≤◌, ◌-◌, ◌^◌, ◌+◌, length}
use Rattle.cm_core.specs.Code.{expr_of, exprs_of}
use Rattle.cm_core.specs.Sizes as sizes
use Rattle.memory_layout.specs.Held.{held}
use Rattle.memory_layout.specs.Parts.{parts, all_parts}
use Rattle.memory_layout.specs.Scales.{scale_of}
use Rattle.memory_layout.proofs.exprs.+measured.Given as goal

abbrev pub decreases-measured_expr : goal.decreases-measured_expr
decreases-measured_expr l = parts (expr_of l.expr.now)

abbrev pub decreases-sizes_of : goal.decreases-sizes_of
decreases-sizes_of l = all_parts (exprs_of l.all.now)

abbrev pub invariant-sizes_of-loop-first : goal.invariant-sizes_of-loop-first
invariant-sizes_of-loop-first l =
    (held (l.size + sizes.exprs_size (scale_of l.scale) (exprs_of l.rest)) ≡ held (sizes.exprs_size (scale_of l.scale) (exprs_of l.all)))
    × ((all_parts (exprs_of l.rest) ≤ all_parts (exprs_of l.all)) × (l.size ≤ 2 ^ 64 - 1))

abbrev pub decreases-sizes_of-loop-first : goal.decreases-sizes_of-loop-first
decreases-sizes_of-loop-first l = length l.rest
