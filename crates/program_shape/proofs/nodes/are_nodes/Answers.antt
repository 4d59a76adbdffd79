use Rattle.cm_core.specs.Consistent.{IsNode}
use Rattle.std.proofs.Common.{refl}
use Rattle.program_shape.proofs.Every.{all_step, all_done}
use Rattle.program_shape.proofs.nodes.are_nodes.Goals as goal

pub loop-node-preserved : goal.loop-node-preserved
loop-node-preserved c = all_step (IsNode c.args.program.now) c.args.program.now.nodes c.as_slice-node-items.result.now c.loop-node.node-index c.node-item.result c.as_slice-node-items.ensures c.loop-node-test.true c.node-item.is c.loop-node.invariant (c.if-not-is_node.ensures refl)

pub returns : goal.returns
returns c = λ _. all_done (IsNode c.args.program.now) c.args.program.now.nodes c.as_slice-node-items.result.now c.loop-node.node-index c.as_slice-node-items.ensures c.loop-node-test.false c.loop-node.invariant
