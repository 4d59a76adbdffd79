use Rattle.std.proofs.Common.{arith}
use Rattle.std.proofs.lemmas.Grind.{common_steps}
use Rattle.graph_search.proofs.Steps.{targets_more}
use Rattle.graph_search.proofs.placing.successors.Goals as goal

pub loop-edge-preserved : goal.loop-edge-preserved
loop-edge-preserved c = (grind (arith, common_steps), λ p d h. grind (arith, common_steps, targets_more c.args.edges.now c.loop-edge.edge-index p (record { from = 0; to = 0 }), c.loop-edge.invariant.1 p d, c.index_mut.ensures.value, c.in_ok-push.ensures.items))
