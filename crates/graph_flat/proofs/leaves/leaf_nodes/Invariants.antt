use Rattle.std.proofs.Common.{◌≡◌, ◌++◌, ◌<◌, ◌≤◌, All, length, reverse}
use Rattle.std.specs.Prelude.{sum_by}
use Rattle.std.specs.List.{flat_map}
use Rattle.cm_base.specs.declared.place.NodeId.{NodeId}
use Rattle.cm_core.specs.Tree.{leaf_nodes, leaves_below}
use Rattle.graph_flat.specs.Steps.{steps_below}
use Rattle.graph_flat.proofs.leaves.leaf_nodes.Given as goal

abbrev pub invariant-loop-id : goal.invariant-loop-id
invariant-loop-id l = record {
  within : All (λ (n : NodeId). n.0 < length l.program.nodes) l.stack.items;
  all : l.found.items ++ flat_map (leaves_below l.program (length l.program.nodes)) (reverse l.stack.items) ≡ leaf_nodes l.program;
  few : length l.found.items ≤ 4096;
}

abbrev pub decreases-loop-id : goal.decreases-loop-id
decreases-loop-id l = sum_by (steps_below l.program (length l.program.nodes)) l.stack.items
