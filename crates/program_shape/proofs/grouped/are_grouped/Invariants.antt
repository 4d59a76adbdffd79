use Rattle.std.proofs.Common.{◌≡◌, ◌<◌, true}
use Rattle.cm_base.specs.declared.place.NodeId.{NodeId}
use Rattle.cm_core.specs.Tree.{node_at}
use Rattle.cm_core.specs.Consistent.{HasGroups, is_graph}
use Rattle.program_shape.proofs.grouped.are_grouped.Given as goal

abbrev pub invariant-loop-at : goal.invariant-loop-at
invariant-loop-at l = (n : NodeId) → n.0 < l.at → is_graph (node_at l.program n).body ≡ true → HasGroups l.program n
