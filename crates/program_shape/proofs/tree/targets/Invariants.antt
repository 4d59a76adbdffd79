use Rattle.std.proofs.Common.{◌≡◌, ◌∷◌, take, map}
use Rattle.graph_search.specs.declared.edges.Edge.{Edge}
use Rattle.program_shape.proofs.tree.targets.Given as goal

abbrev pub invariant-loop-edge : goal.invariant-loop-edge
invariant-loop-edge l = l.targets.items ≡ l.fn.main.0 ∷ map (λ (e : Edge). e.to) (take l.edge-index l.edges)
