use Rattle.std.proofs.Common.{rules, ◌≡◌, ◌∙◌, sym, true, false, length, arith}
use Rattle.std.proofs.lemmas.Bool.{OnTrue_at, OnFalse_at}
use Rattle.std.proofs.lemmas.Result.{err_from_is_err_and}
use Rattle.wasm_reader.specs.Reading.{with_custom, custom_at, filled_at}
use Rattle.wasm_reader.proofs.Ends.{ok_is}
use Rattle.wasm_reader.proofs.Steps.{fails-first, customs-step, customs-last}
use Rattle.wasm_reader.proofs.section.customs.Goals as goal

pub returns-then-not-accept : goal.returns-then-not-accept
returns-then-not-accept c =
    let off : c.accept.result ≡ false = search rules in
    let other = OnFalse_at off c.accept.ensures.other in
    rw other.1 (sym c.loop.invariant ∙ (rw other.0 at (customs-step (length c.args.cursor.now) c.loop.counter c.loop.found c.loop.cursor (omega arith))))

pub returns-in_err-custom : goal.returns-in_err-custom
returns-in_err-custom c =
    let p = err_from_is_err_and c.from_residual.result c.from_residual.ensures.1 in
    let on : c.accept.result ≡ true = search rules in
    rw (p.1, p.2) (fails-first c.in_err-custom.field-0.0 (filled_at custom_at c.accept.new.self) _ (rw (OnTrue_at on c.accept.ensures.taken) at (customs-step (length c.args.cursor.now) c.loop.counter c.loop.found c.loop.cursor (omega arith))) c.in_err-custom.ensures c.loop.invariant)

pub loop-preserved : goal.loop-preserved
loop-preserved c =
    let put : with_custom c.in_ok-custom.custom c.loop.found ≡ c.put.new.found = ok_is _ _ c.in_ok-put.ensures in
    let on : c.accept.result ≡ true = search rules in
    rw (← put) (sym (rw (OnTrue_at on c.accept.ensures.taken, c.in_ok-custom.ensures) at (customs-step (length c.args.cursor.now) c.loop.counter c.loop.found c.loop.cursor (omega arith))) ∙ c.loop.invariant)

pub returns : goal.returns
returns c = sym c.loop.invariant ∙ customs-last (length c.args.cursor.now) c.loop.counter c.loop.found c.loop.cursor (omega arith)
