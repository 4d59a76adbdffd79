use Rattle.cm_meaning.specs.Scopes.{node_name}
use Rattle.declaration_walk.specs.Declares.{Declares}
use Rattle.std.proofs.Common.{[], drop, flat_map, ◌∷◌}
use Rattle.cm_tree.specs.declared.member.Node.{Node as NodeDecl}
use Rattle.declaration_walk.proofs.names.declare_nodes.Given as goal

abbrev pub invariant-loop-index : goal.invariant-loop-index
invariant-loop-index l = Declares l.fn.steps l.steps (λ h. flat_map (λ (x : NodeDecl). node_name h x ∷ []) (drop l.index l.nodes))
