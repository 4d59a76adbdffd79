use Rattle.std.proofs.Common.{◌≡◌, ◌++◌, take}
use Rattle.std.specs.List.{flat_map}
use Rattle.cm_base.specs.declared.place.NodeId.{NodeId}
use Rattle.graph_flat.specs.Ends.{with_flow}
use Rattle.cm_core.specs.Tree.{node_at}
use Rattle.graph_flat.proofs.ends.ends_with.Given as goal

abbrev pub invariant-loop-node : goal.invariant-loop-node
invariant-loop-node l = l.found.items ≡ with_flow l.program l.fn.host (node_at l.program l.program.main).ends ++ flat_map (λ (n : NodeId). with_flow l.program l.leaf (node_at l.program n).ends) (take l.node-index l.leaves)
