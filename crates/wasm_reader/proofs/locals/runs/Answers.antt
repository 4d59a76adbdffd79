use Rattle.std.proofs.Common.{arith}
use Rattle.std.proofs.Math.Nat.{sub-zero}
use Rattle.std.proofs.lemmas.Result.{err_from_is_err_and}
use Rattle.wasm_reader.specs.Reading.{locals_at}
use Rattle.wasm_reader.proofs.Steps.{front-begins, front-ends, front-goes_on, front-is_done, runs-step, runs-last}
use Rattle.wasm_reader.proofs.locals.runs.Goals as goal

pub loop-init : goal.loop-init
loop-init c = record { read = rw (c.new-runs.ensures, sub-zero) (front-begins _); few = omega arith }

pub returns-in_err-next : goal.returns-in_err-next
returns-in_err-next c =
    let p = err_from_is_err_and c.from_residual.result c.from_residual.ensures.1 in
    rw (p.1, p.2) (front-ends c.in_err-next.field-0.0 c.loop.runs (locals_at c.loop.before c.loop.cursor) _ (runs-step c.args.count c.loop.counter c.loop.before c.loop.cursor c.loop-test.true) c.in_err-next.ensures.value c.loop.invariant.read)

pub loop-preserved : goal.loop-preserved
loop-preserved c = record {
  read = rw c.in_ok-push.ensures.ok (front-goes_on c.loop.runs c.in_ok-next.next _ (rw c.in_ok-next.ensures.value at (runs-step c.args.count c.loop.counter c.loop.before c.loop.cursor c.loop-test.true)) c.loop.invariant.read);
  few = omega (arith, c.in_ok-next.ensures.few);
}

pub returns : goal.returns
returns c = front-is_done c.loop.runs c.loop.cursor (runs-last c.args.count c.loop.counter c.loop.before c.loop.cursor c.loop-test.false) c.loop.invariant.read
