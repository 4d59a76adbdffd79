use Rattle.declaration_walk.proofs.NameLemmas.{params-all, params-next, params-start}
use Rattle.std.proofs.Common.{arith, length, refl, rules, ◌-◌}
use Rattle.declaration_walk.proofs.names.declare_params.Goals as goal

pub loop-index-init : goal.loop-index-init
loop-index-init c = params-start c.args.params.now (length c.args.params.now) c.args.steps.now refl

pub loop-index-preserved : goal.loop-index-preserved
loop-index-preserved c = params-next c.args.params.now (c.loop-index.index - 1) c.loop-index.index c.index-params-index.result c.args.steps.now c.loop-index.steps c.declare_param.new.steps
    (omega (arith, c.loop-index-test.true)) (search rules) c.index-params-index.is c.loop-index.invariant c.in_ok-declare_param.ensures

pub returns : goal.returns
returns c = params-all c.args.params.now c.loop-index.index c.args.steps.now c.loop-index.steps (let w = c.loop-index-test.false in omega arith) c.loop-index.invariant
