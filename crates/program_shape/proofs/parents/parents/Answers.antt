use Rattle.program_shape.proofs.parents.parents.Goals as goal
use Rattle.std.proofs.Common.{arith, get_or, ◌<◌, length}
use Rattle.std.proofs.lemmas.Grind.{common_steps}
use Rattle.program_shape.proofs.Trees.{parent_step}

pub loop-edge-preserved : goal.loop-edge-preserved
loop-edge-preserved c =
    let i = c.loop-edge.edge-index in
    let e = get_or c.args.edges.now i (record { from = 0; to = 0 }) in
    let within : e.to < length c.loop-edge.parents.items = grind (arith, common_steps, c.requires.within i (record { from = 0; to = 0 }) c.loop-edge-test.true) in
    record {
      len = c.loop-edge.invariant.len;
      parents = λ p q. parent_step c.args.edges.now i (record { from = 0; to = 0 }) c.loop-edge.parents.items p q c.requires.once c.loop-edge-test.true within (c.loop-edge.invariant.parents p q);
    }
