use Rattle.std.proofs.Common.{[], arith, get_or}
use Rattle.std.proofs.lemmas.Grind.{common_steps}
use Rattle.graph_search.proofs.Steps.{unmet_more, unmet_below}
use Rattle.graph_search.proofs.placing.degrees.Goals as goal

pub overflow_add-index_mut : goal.overflow_add-index_mut
overflow_add-index_mut c =
    let q = (get_or c.args.edges.now c.loop-edge.edge-index (record { from = 0; to = 0 })).to in
    grind (arith, common_steps, unmet_below c.args.edges.now [] c.loop-edge.edge-index q, c.loop-edge.invariant.1 q)

pub loop-edge-preserved : goal.loop-edge-preserved
loop-edge-preserved c = (grind (arith, common_steps), λ q. grind (arith, common_steps, c.requires c.loop-edge.edge-index (record { from = 0; to = 0 }), unmet_more c.args.edges.now c.loop-edge.edge-index q (record { from = 0; to = 0 }), c.loop-edge.invariant.1 q))
