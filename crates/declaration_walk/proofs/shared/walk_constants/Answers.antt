use Rattle.cm_meaning.specs.PatchSites.{constant_sites}
use Rattle.scope_walk.proofs.StepLemmas.{parts-all, parts-next, parts-start}
use Rattle.std.proofs.Common.{arith}
use Rattle.declaration_walk.proofs.shared.walk_constants.Goals as goal

pub loop-init-init : goal.loop-init-init
loop-init-init c = parts-start constant_sites c.args.inits.now c.args.steps.now

pub loop-init-preserved : goal.loop-init-preserved
loop-init-preserved c = parts-next constant_sites c.args.inits.now c.loop-init.init-index c.init-item.result c.args.steps.now c.loop-init.steps c.walk_constant.new.steps c.loop-init-test.true c.init-item.is c.loop-init.invariant c.in_ok-walk_constant.ensures

pub returns : goal.returns
returns c = parts-all constant_sites c.args.inits.now c.loop-init.init-index c.args.steps.now c.loop-init.steps (let w = c.loop-init-test.false in let e = c.loop-init.auto.init-index-end in omega arith) c.loop-init.invariant
