use Rattle.std.proofs.Common.{◌≡◌, take, All, true}
use Rattle.cm_base.specs.declared.place.NodeId.{NodeId}
use Rattle.cm_core.specs.Tree.{node_at}
use Rattle.cm_core.specs.Consistent.{is_graph}
use Rattle.program_shape.proofs.groups.is_own_group.Given as goal

abbrev pub invariant-loop-node : goal.invariant-loop-node
invariant-loop-node l = All (λ (n : NodeId). is_graph (node_at l.program n).body ≡ true) (take l.node-index l.group.nodes)
