use Rattle.std.proofs.Common.{◌≡◌, ℕ, ◌+◌, Some, refl, sym, ap, ◌∙◌, drop, arith}
use Rattle.cm_lexer.specs.Scan.{later, close_len}
use Rattle.cm_lexer.proofs.Closing.{later_later, close_at, close_past, close_end}
use Rattle.cm_lexer.proofs.comment.close_len.Goals as goal

pub returns-then-closes_at-clause-value : goal.returns-then-closes_at-clause-value
returns-then-closes_at-clause-value c =
    let text = c.args.text.now in
    let at = c.loop-at.at in
    let here = close_at text at c.loop-at-test.true (sym c.closes_at.ensures ∙ c.if-closes_at.true) in
    ap (λ (n : ℕ). Some n) (omega arith) ∙ sym (ap (later at) here) ∙ c.loop-at.invariant

pub loop-at-preserved : goal.loop-at-preserved
loop-at-preserved c =
    let text = c.args.text.now in
    let at = c.loop-at.at in
    let past = close_past text at c.loop-at-test.true (sym c.closes_at.ensures ∙ c.if-closes_at.false) in
    sym (later_later at (close_len (drop (at + 1) text))) ∙ sym (ap (later at) past) ∙ c.loop-at.invariant

pub returns-clause-value : goal.returns-clause-value
returns-clause-value c = sym (ap (later c.loop-at.at) (close_end c.args.text.now c.loop-at.at c.loop-at-test.false)) ∙ c.loop-at.invariant
