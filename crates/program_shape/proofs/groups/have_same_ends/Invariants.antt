use Rattle.std.proofs.Common.{◌≡◌, take, All, map, get_or}
use Rattle.cm_base.specs.declared.place.NodeId.{NodeId}
use Rattle.cm_core.specs.Tree.{node_at, end_at}
use Rattle.program_shape.proofs.groups.have_same_ends.Given as goal

abbrev pub invariant-loop-node : goal.invariant-loop-node
invariant-loop-node l = All (λ (n : NodeId). map (end_at l.program) (node_at l.program (get_or l.nodes 0 (record { 0 = 0 }))).ends ≡ map (end_at l.program) (node_at l.program n).ends) (take l.node-index l.nodes)
