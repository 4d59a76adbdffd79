use Rattle.std.proofs.Common.{◌≡◌, ◌<◌, ◌+◌, ℕ, length, drop, refl, sym, ap, subst, ◌∙◌, length-drop, arith}
use Rattle.cm_lexer.specs.Scan.{item_len, body_len}
use Rattle.cm_lexer.proofs.Items.{body_step, body_end}
use Rattle.cm_lexer.proofs.quoted.body_len.Goals as goal

pub loop-item-preserved : goal.loop-item-preserved
loop-item-preserved c =
    let text = c.loop-item.text.now in
    let item = c.loop-item.item in
    let step = body_step text (omega (arith, c.loop-item.invariant.item, c.loop-item-test.true)) in
    let rest : c.split_at.result.1.now ≡ drop item text = c.split_at.ensures.back in
    let value : body_len text ≡ item + body_len (drop item text) = subst (λ (n : ℕ). body_len text ≡ n + body_len (drop n text)) (sym c.loop-item.invariant.item) step in
    record {
      value = rw rest (omega (arith, value, c.loop-item.invariant.value));
      item = c.item_len-item-in-loop-item.ensures.value;
      fits = c.item_len-item-in-loop-item.ensures.within;
      room = rw rest (omega (arith, length-drop item text, c.loop-item.invariant.fits, c.loop-item.invariant.room));
    }

pub returns-clause-value : goal.returns-clause-value
returns-clause-value c =
    let none = body_end c.loop-item.text.now (omega (arith, c.loop-item.invariant.item, c.loop-item-test.false)) in
    omega (arith, none, c.loop-item.invariant.value)
