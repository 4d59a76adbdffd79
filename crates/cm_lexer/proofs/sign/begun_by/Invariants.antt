use Rattle.std.proofs.Common.{◌≡◌, length, map}
use Rattle.cm_lexer.specs.Scan.{begun_by}
use Rattle.cm_lexer.proofs.sign.begun_by.Given as goal

abbrev pub invariant-loop-table : goal.invariant-loop-table
invariant-loop-table l = begun_by (map (λ e. (e.0.now, e.1)) l.table) l.text ≡ begun_by (map (λ e. (e.0.now, e.1)) l.initial.table) l.text

abbrev pub decreases-loop-table : goal.decreases-loop-table
decreases-loop-table l = length l.table
