use Rattle.std.proofs.Common.{◌≡◌, ◌+◌, length}
use Rattle.cm_lexer.specs.Moving.{IsNear}
use Rattle.cm_lexer.proofs.Cutting.{Reached}
use Rattle.cm_lexer.proofs.cut.cut.Given as goal

abbrev pub invariant-loop-rest : goal.invariant-loop-rest
invariant-loop-rest l = record {
  reached : Reached l.file l.bytes l.rest l.list l.pen;
  room : l.pen.offset + length l.rest ≡ length l.bytes;
  near : IsNear l.pen;
}

abbrev pub decreases-loop-rest : goal.decreases-loop-rest
decreases-loop-rest l = length l.rest
