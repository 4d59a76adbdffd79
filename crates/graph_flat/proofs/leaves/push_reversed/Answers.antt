use Rattle.graph_flat.proofs.Stack.{reversed_more}
use Rattle.graph_flat.proofs.leaves.push_reversed.Goals as goal

pub loop-step-preserved : goal.loop-step-preserved
loop-step-preserved g c = record {
  count = c.loop-step.invariant.count;
  built = reversed_more _ c.loop-step.stack.items c.push.new.self.items c.args.more.now c.loop-step.step _ c.index-more-count.result c.loop-step.invariant.built c.in_ok-push.ensures.items c.loop-step-test.true c.loop-step.invariant.count c.index-more-count.is;
}
