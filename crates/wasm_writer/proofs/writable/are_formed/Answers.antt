use Rattle.std.proofs.Common.{rules, ◌≤◌, refl}
use Rattle.wasm_tree.specs.Control.{IsClosed}
use Rattle.wasm_tree.specs.Spelled.{count_of_locals, most_locals}
use Rattle.wasm_tree.specs.Valid.{IsBodyWithinLimits}
use Rattle.wasm_writer.proofs.Parts.{all_more, all_seen}
use Rattle.wasm_writer.proofs.writable.are_formed.Goals as goal

pub loop-body-preserved : goal.loop-body-preserved
loop-body-preserved c =
    let few : count_of_locals c.body-item.result.locals ≤ most_locals = search rules in
    let closed : IsClosed c.body-item.result.code = search rules in
    all_more IsBodyWithinLimits c.args.bodies.now c.loop-body.body-index c.body-item.result c.loop-body-test.true c.body-item.is c.loop-body.invariant (record { locals = few; nesting = closed })

pub returns : goal.returns
returns c = ((λ _. all_seen IsBodyWithinLimits c.args.bodies.now c.loop-body.body-index c.loop-body-test.false c.loop-body.invariant), (λ _. refl))
