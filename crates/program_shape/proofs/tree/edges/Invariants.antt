use Rattle.std.proofs.Common.{◌≡◌, take, map, nat_lt}
use Rattle.std.specs.Prelude.{◌&&◌}
use Rattle.graph_search.specs.declared.edges.Edge.{Edge}
use Rattle.cm_base.specs.declared.place.NodeId.{NodeId}
use Rattle.cm_core.specs.Tree.{node_at, children}
use Rattle.cm_core.specs.Consistent.{is_in}
use Rattle.program_shape.specs.Shape.{children_of_all, leads}
use Rattle.program_shape.proofs.tree.edges.Given as goal

abbrev pub invariant-loop-at : goal.invariant-loop-at
invariant-loop-at l = record {
  to : map (λ (e : Edge). e.to) l.edges.items ≡ map (λ (n : NodeId). n.0) (children_of_all (take l.at l.program.nodes));
  leads : (n m : NodeId) → leads l.edges.items n.0 m.0 ≡ (nat_lt n.0 l.at && is_in (children (node_at l.program n).body) m);
}
