use Rattle.std.proofs.Common.{◌≡◌, ◌+◌, drop, fold}
use Rattle.cm_lexer.specs.Moving.{moved, IsNear}
use Rattle.cm_lexer.proofs.pen.Pen.past.Given as goal

abbrev pub invariant-loop-byte : goal.invariant-loop-byte
invariant-loop-byte l = record {
  place : fold moved l.self.place (drop l.byte-index l.bytes) ≡ fold moved l.fn.self.place l.bytes;
  offset : l.self.offset ≡ l.fn.self.offset + l.byte-index;
  near : IsNear l.self;
}
