use Rattle.std.proofs.Common.{◌≡◌, ◌+◌, ◌≤◌, length}
use Rattle.cm_lexer.specs.Scan.{item_len, body_len}
use Rattle.cm_lexer.proofs.quoted.body_len.Given as goal

abbrev pub invariant-loop-item : goal.invariant-loop-item
invariant-loop-item l = record {
  value : l.len + body_len l.text ≡ body_len l.initial.text;
  item : l.item ≡ item_len l.text;
  fits : l.item ≤ length l.text;
  room : l.len + length l.text ≡ length l.initial.text;
}

abbrev pub decreases-loop-item : goal.decreases-loop-item
decreases-loop-item l = length l.text
