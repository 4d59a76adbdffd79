use Rattle.program_shape.proofs.owners.are_in.Goals as goal
use Rattle.std.proofs.Common.{refl, ◌≡◌, get_or, arith}
use Rattle.std.specs.Prelude.{None, Some}
use Rattle.std.proofs.lemmas.Grind.{common_steps}
use Rattle.cm_base.specs.declared.place.NodeId.{NodeId}
use Rattle.program_shape.proofs.Every.{all_step_at, all_done}

pub loop-node-preserved : goal.loop-node-preserved
loop-node-preserved c = all_step_at (λ (n : NodeId). get_or c.args.parents.now n.0 None ≡ Some c.args.graph) c.args.nodes.now c.args.nodes.now c.loop-node.node-index (record { 0 = 0 }) refl c.loop-node-test.true c.loop-node.invariant (grind (arith, common_steps))

pub returns : goal.returns
returns c = λ _. all_done (λ (n : NodeId). get_or c.args.parents.now n.0 None ≡ Some c.args.graph) c.args.nodes.now c.args.nodes.now c.loop-node.node-index refl c.loop-node-test.false c.loop-node.invariant
