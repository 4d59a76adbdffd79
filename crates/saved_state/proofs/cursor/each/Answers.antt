use Rattle.std.proofs.lemmas.Result.{err_from_is_err_and}
use Rattle.saved_state.specs.Reading.{each_at}
use Rattle.saved_state.proofs.Steps.{each-goes_on, each-ends, each-is_done}
use Rattle.saved_state.proofs.cursor.each.Goals as goal

pub returns-in_err-part : goal.returns-in_err-part
returns-in_err-part g c =
    let p = err_from_is_err_and c.from_residual.result c.from_residual.ensures.1 in
    rw (p.1, p.2) (each-ends g.P.Part.reads c.in_err-part.field-0.0 c.loop.parts c.args.count c.loop.counter c.loop.cursor (each_at g.P.Part.reads c.args.count c.args.cursor.now) c.loop-test.true c.in_err-part.ensures c.loop.invariant)

pub loop-preserved : goal.loop-preserved
loop-preserved g c =
    rw c.in_ok-push.ensures.ok (each-goes_on g.P.Part.reads c.loop.parts c.args.count c.loop.counter c.loop.cursor c.in_ok-part.part c.read.new.cursor (each_at g.P.Part.reads c.args.count c.args.cursor.now) c.loop-test.true c.in_ok-part.ensures c.loop.invariant)

pub returns : goal.returns
returns g c = each-is_done g.P.Part.reads c.loop.parts c.args.count c.loop.counter c.loop.cursor (each_at g.P.Part.reads c.args.count c.args.cursor.now) c.loop-test.false c.loop.invariant
