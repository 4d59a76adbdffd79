use Rattle.std.proofs.Common.{◌≡◌, [], length, arith, sym, ◌∙◌, ap}
use Rattle.std.proofs.Math.Nat.{sub-zero}
use Rattle.std.proofs.lemmas.Result.{err_from_is_err_and}
use Rattle.wasm_reader.specs.Reading.{next_at, expression_at}
use Rattle.wasm_reader.proofs.Steps.{with_front, front-begins, front-ends, front-goes_on, code-step, code-last}
use Rattle.wasm_reader.proofs.Control.{some_open}
use Rattle.wasm_reader.proofs.code.expression.Goals as goal

pub loop-init : goal.loop-init
unfolding expression_at
loop-init c = rw (c.new-control.ensures, c.new-code.ensures, sub-zero) (front-begins _)

pub returns-in_err-instr : goal.returns-in_err-instr
returns-in_err-instr c =
    let p = err_from_is_err_and c.from_residual.result c.from_residual.ensures.1 in
    rw (p.1, p.2) (front-ends c.in_err-instr.field-0.0 c.loop.code (next_at c.loop.control c.loop.cursor) _ (code-step (length c.args.cursor.now) c.loop.counter c.loop.control c.loop.cursor (omega arith)) c.in_err-instr.ensures c.loop.invariant)

pub returns-then-is_ended : goal.returns-then-is_ended
returns-then-is_ended c =
    let none = c.is_ended.ensures.0 c.if-is_ended.true in
    rw c.in_ok-push.ensures.ok (sym c.loop.invariant ∙ ap (with_front c.loop.code) (rw (c.in_ok-instr.ensures, none) at (code-step (length c.args.cursor.now) c.loop.counter c.loop.control c.loop.cursor (omega arith))))

pub loop-preserved : goal.loop-preserved
loop-preserved c =
    let some : c.next.new.control ≡ [] → ⊥ = λ (e : c.next.new.control ≡ []). absurd (cc (c.is_ended.ensures.1 e, c.if-is_ended.false)) in
    rw c.in_ok-push.ensures.ok (front-goes_on c.loop.code c.in_ok-instr.instr _ (rw (c.in_ok-instr.ensures, some_open c.next.new.control some) at (code-step (length c.args.cursor.now) c.loop.counter c.loop.control c.loop.cursor (omega arith))) c.loop.invariant)

pub returns : goal.returns
returns c = rw c.at.ensures (sym c.loop.invariant ∙ ap (with_front c.loop.code) (code-last (length c.args.cursor.now) c.loop.counter c.loop.control c.loop.cursor (omega arith)))
