use Rattle.std.proofs.Common.{◌≡◌, ◌≤◌, ◌-◌, ◌^◌, ◌+◌, ◌||◌, length}
use Rattle.cm_core.specs.Code.{stmt_of}
use Rattle.cm_core.specs.Measures as measures
use Rattle.cm_core.specs.Views.{stmts_of}
use Rattle.memory_layout.specs.Held.{held}
use Rattle.memory_layout.specs.Parts.{stmt_parts, stmts_parts}
use Rattle.memory_layout.proofs.splits.+splits.Given as goal

abbrev pub decreases-splits_in : goal.decreases-splits_in
decreases-splits_in l = stmt_parts (stmt_of l.stmt.now)

abbrev pub decreases-splits_among : goal.decreases-splits_among
decreases-splits_among l = stmts_parts (stmts_of l.all.now)

abbrev pub invariant-splits_among-loop-first : goal.invariant-splits_among-loop-first
invariant-splits_among-loop-first l =
    ((l.found.advances || measures.any_advances (stmts_of l.rest)) ≡ measures.any_advances (stmts_of l.all))
    × ((held (l.found.count + measures.splits_among (stmts_of l.rest)) ≡ held (measures.splits_among (stmts_of l.all)))
    × ((stmts_parts (stmts_of l.rest) ≤ stmts_parts (stmts_of l.all)) × (l.found.count ≤ 2 ^ 64 - 1)))

abbrev pub decreases-splits_among-loop-first : goal.decreases-splits_among-loop-first
decreases-splits_among-loop-first l = length l.rest
