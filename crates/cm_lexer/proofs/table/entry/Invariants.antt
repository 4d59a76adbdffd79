use Rattle.std.proofs.Common.{◌≡◌, length, map}
use Rattle.cm_tree.specs.Pieces.{entry}
use Rattle.cm_lexer.proofs.table.entry.Given as goal

abbrev pub invariant-loop-table : goal.invariant-loop-table
invariant-loop-table g l = entry (map (λ e. (e.0.now, e.1)) l.table) l.text ≡ entry (map (λ e. (e.0.now, e.1)) l.initial.table) l.text

abbrev pub decreases-loop-table : goal.decreases-loop-table
decreases-loop-table g l = length l.table
