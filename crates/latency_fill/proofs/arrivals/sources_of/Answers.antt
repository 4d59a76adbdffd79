use Rattle.std.proofs.Common.{arith}
use Rattle.std.proofs.lemmas.Grind.{common_steps}
use Rattle.latency_fill.proofs.Sources.{sources_more}
use Rattle.latency_fill.proofs.arrivals.sources_of.Goals as goal

pub loop-edge-preserved : goal.loop-edge-preserved
loop-edge-preserved c = (grind (arith, common_steps), λ p d h. grind (arith, common_steps, sources_more c.args.edges.now c.loop-edge.edge-index p (record { from = 0; to = 0 }), c.loop-edge.invariant.1 p d, c.index_mut.ensures.value, c.in_ok-push.ensures.items))
