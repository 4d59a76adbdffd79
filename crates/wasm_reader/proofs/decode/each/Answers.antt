use Rattle.std.proofs.lemmas.Result.{err_from_is_err_and}
use Rattle.wasm_reader.proofs.Steps.{front-ends, front-goes_on, front-is_done, each-step, each-last}
use Rattle.wasm_reader.proofs.decode.each.Goals as goal

pub returns-in_err-item : goal.returns-in_err-item
returns-in_err-item g c =
    let p = err_from_is_err_and c.from_residual.result c.from_residual.ensures.1 in
    rw (p.1, p.2) (front-ends c.in_err-item.field-0.0 c.loop.items (g.T.Decode.reads c.loop.cursor) _ (each-step g.T.Decode.reads c.args.count c.loop.counter c.loop.cursor c.loop-test.true) c.in_err-item.ensures c.loop.invariant)

pub loop-preserved : goal.loop-preserved
loop-preserved g c =
    rw c.in_ok-push.ensures.ok (front-goes_on c.loop.items c.in_ok-item.item _ (rw c.in_ok-item.ensures at (each-step g.T.Decode.reads c.args.count c.loop.counter c.loop.cursor c.loop-test.true)) c.loop.invariant)

pub returns : goal.returns
returns g c = front-is_done c.loop.items c.loop.cursor (each-last g.T.Decode.reads c.args.count c.loop.counter c.loop.cursor c.loop-test.false) c.loop.invariant
