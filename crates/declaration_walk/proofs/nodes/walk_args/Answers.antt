use Rattle.declaration_walk.proofs.PartLemmas.{given-next, given-start, given-whole}
use Rattle.std.proofs.Common.{arith}
use Rattle.declaration_walk.proofs.nodes.walk_args.Goals as goal

pub loop-index-init : goal.loop-index-init
loop-index-init c = given-start c.args.path.now c.args.args.now c.args.steps.now

pub loop-index-preserved : goal.loop-index-preserved
loop-index-preserved c = given-next c.args.path.now c.args.args.now c.loop-index.index c.index-args-index.result c.args.steps.now c.loop-index.steps c.walk_arg.new.steps c.loop-index-test.true c.index-args-index.is c.loop-index.invariant c.in_ok-walk_arg.ensures

pub returns : goal.returns
returns c = given-whole c.args.path.now c.args.args.now c.loop-index.index c.args.steps.now c.loop-index.steps (let w = c.loop-index-test.false in let e = c.loop-index.auto.index-end in omega arith) c.loop-index.invariant
