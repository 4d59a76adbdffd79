use Rattle.declaration_walk.proofs.SpaceLemmas.{steps-all, steps-next, steps-start}
use Rattle.scope_walk.specs.Steps.{EntersSpace}
use Rattle.std.proofs.Common.{arith}
use Rattle.declaration_walk.proofs.patch.enter_spaces.Goals as goal

pub loop-name-init : goal.loop-name-init
loop-name-init c = steps-start EntersSpace c.args.names.now c.args.steps.now

pub loop-name-preserved : goal.loop-name-preserved
loop-name-preserved c = steps-next EntersSpace c.args.names.now c.loop-name.name-index c.name-item.result c.args.steps.now c.loop-name.steps c.enter_space.new.self c.loop-name-test.true c.name-item.is c.loop-name.invariant c.in_ok-enter_space.ensures

pub returns : goal.returns
returns c = steps-all EntersSpace c.args.names.now c.loop-name.name-index c.args.steps.now c.loop-name.steps (let w = c.loop-name-test.false in let e = c.loop-name.auto.name-index-end in omega arith) c.loop-name.invariant
