use Rattle.std.proofs.lemmas.Result.{err_from_is_err_and}
use Rattle.wasm_reader.proofs.Steps.{front-ends, front-goes_on, front-is_done, each-step, each-last}
use Rattle.section_reader.specs.Reading.{slot_at}
use Rattle.section_reader.proofs.raw.each.Goals as goal

pub returns-in_err-slot : goal.returns-in_err-slot
returns-in_err-slot c =
    let p = err_from_is_err_and c.from_residual.result c.from_residual.ensures.1 in
    rw (p.1, p.2) (front-ends c.in_err-slot.field-0.0 c.loop.slots.items (slot_at c.loop.cursor) _ (each-step slot_at c.args.count c.loop.counter c.loop.cursor c.loop-test.true) c.in_err-slot.ensures c.loop.invariant)

pub loop-preserved : goal.loop-preserved
loop-preserved c =
    rw c.in_ok-push.ensures.items (front-goes_on c.loop.slots.items c.in_ok-slot.slot _ (rw c.in_ok-slot.ensures at (each-step slot_at c.args.count c.loop.counter c.loop.cursor c.loop-test.true)) c.loop.invariant)

pub returns : goal.returns
returns c = front-is_done c.loop.slots.items c.loop.cursor (each-last slot_at c.args.count c.loop.counter c.loop.cursor c.loop-test.false) c.loop.invariant
