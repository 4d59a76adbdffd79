use Rattle.cm_meaning.specs.PatchSites.{param_sites}
use Rattle.scope_walk.proofs.StepLemmas.{parts-all, parts-next, parts-start}
use Rattle.std.proofs.Common.{arith}
use Rattle.declaration_walk.proofs.units.walk_params.Goals as goal

pub loop-param-init : goal.loop-param-init
loop-param-init c = parts-start param_sites c.args.params.now c.args.steps.now

pub loop-param-preserved : goal.loop-param-preserved
loop-param-preserved c = parts-next param_sites c.args.params.now c.loop-param.param-index c.param-item.result c.args.steps.now c.loop-param.steps c.walk_param.new.steps c.loop-param-test.true c.param-item.is c.loop-param.invariant c.in_ok-walk_param.ensures

pub returns : goal.returns
returns c = parts-all param_sites c.args.params.now c.loop-param.param-index c.args.steps.now c.loop-param.steps (let w = c.loop-param-test.false in let e = c.loop-param.auto.param-index-end in omega arith) c.loop-param.invariant
