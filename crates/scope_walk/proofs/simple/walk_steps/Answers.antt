use Rattle.std.proofs.Common.{arith}
use Rattle.cm_meaning.specs.BodySites.{step_sites}
use Rattle.scope_walk.proofs.StepLemmas.{parts-start, parts-next, parts-all}
use Rattle.scope_walk.proofs.simple.walk_steps.Goals as goal

pub loop-part-init : goal.loop-part-init
loop-part-init c = parts-start step_sites c.args.parts.now c.args.steps.now

pub loop-part-preserved : goal.loop-part-preserved
loop-part-preserved c = parts-next step_sites c.args.parts.now c.loop-part.part-index c.part-item.result c.args.steps.now c.loop-part.steps c.walk_step.new.steps c.loop-part-test.true c.part-item.is c.loop-part.invariant c.in_ok-walk_step.ensures

pub returns : goal.returns
returns c = parts-all step_sites c.args.parts.now c.loop-part.part-index c.args.steps.now c.loop-part.steps (let w = c.loop-part-test.false in let e = c.loop-part.auto.part-index-end in omega arith) c.loop-part.invariant
