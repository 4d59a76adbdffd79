use Rattle.cm_meaning.specs.PatchSites.{state_value_sites}
use Rattle.scope_walk.proofs.StepLemmas.{parts-all, parts-next, parts-start}
use Rattle.std.proofs.Common.{arith}
use Rattle.declaration_walk.proofs.members.walk_vars.Goals as goal

pub loop-var-init : goal.loop-var-init
loop-var-init c = parts-start state_value_sites c.args.vars.now c.args.steps.now

pub loop-var-preserved : goal.loop-var-preserved
loop-var-preserved c = parts-next state_value_sites c.args.vars.now c.loop-var.var-index c.var-item.result c.args.steps.now c.loop-var.steps c.walk_optional.new.steps c.loop-var-test.true c.var-item.is c.loop-var.invariant c.in_ok-walk_optional.ensures

pub returns : goal.returns
returns c = parts-all state_value_sites c.args.vars.now c.loop-var.var-index c.args.steps.now c.loop-var.steps (let w = c.loop-var-test.false in let e = c.loop-var.auto.var-index-end in omega arith) c.loop-var.invariant
