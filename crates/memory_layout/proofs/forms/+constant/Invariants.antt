use Rattle.std.proofs.Common.{◌≡◌, ◌≤◌, length}
use Rattle.cm_core.specs.Code.{expr_of, exprs_of}
use Rattle.cm_core.specs.Types as types
use Rattle.memory_layout.specs.Parts.{parts, all_parts}
use Rattle.memory_layout.proofs.forms.+constant.Given as goal

abbrev pub decreases-is_constant : goal.decreases-is_constant
decreases-is_constant l = parts (expr_of l.expr.now)

abbrev pub decreases-are_constant : goal.decreases-are_constant
decreases-are_constant l = all_parts (exprs_of l.all.now)

abbrev pub invariant-are_constant-loop-first : goal.invariant-are_constant-loop-first
invariant-are_constant-loop-first l =
    (types.are_constant (exprs_of l.rest) ≡ types.are_constant (exprs_of l.all)) × (all_parts (exprs_of l.rest) ≤ all_parts (exprs_of l.all))

abbrev pub decreases-are_constant-loop-first : goal.decreases-are_constant-loop-first
decreases-are_constant-loop-first l = length l.rest
