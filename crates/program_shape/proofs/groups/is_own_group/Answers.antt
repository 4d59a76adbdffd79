use Rattle.program_shape.proofs.groups.is_own_group.Goals as goal
use Rattle.std.proofs.Common.{sym, ◌≡◌, true, ◌∙◌}
use Rattle.cm_base.specs.declared.place.NodeId.{NodeId}
use Rattle.cm_core.specs.Tree.{node_at}
use Rattle.cm_core.specs.Consistent.{is_graph}
use Rattle.program_shape.proofs.Every.{all_step_at, all_done}

pub loop-node-preserved : goal.loop-node-preserved
loop-node-preserved c = all_step_at (λ (n : NodeId). is_graph (node_at c.args.program.now n).body ≡ true) c.args.group.now.nodes c.as_slice-node-items.result.now c.loop-node.node-index (record { 0 = 0 }) c.as_slice-node-items.ensures c.loop-node-test.true c.loop-node.invariant (sym c.is_graph.ensures ∙ c.if-not-is_graph.false)

pub returns : goal.returns
returns c = λ _. (c.if-group.false, all_done (λ (n : NodeId). is_graph (node_at c.args.program.now n).body ≡ true) c.args.group.now.nodes c.as_slice-node-items.result.now c.loop-node.node-index c.as_slice-node-items.ensures c.loop-node-test.false c.loop-node.invariant)
