use Rattle.std.proofs.Common.{◌≡◌, drop}
use Rattle.cm_lexer.specs.Scan.{later, close_len}
use Rattle.cm_lexer.proofs.comment.close_len.Given as goal

abbrev pub invariant-loop-at : goal.invariant-loop-at
invariant-loop-at l = later l.at (close_len (drop l.at l.text)) ≡ close_len l.text
