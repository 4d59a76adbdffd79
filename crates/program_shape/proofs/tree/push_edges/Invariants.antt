use Rattle.std.proofs.Common.{◌≡◌, ◌++◌, take, map}
use Rattle.program_shape.specs.Shape.{edge_to}
use Rattle.program_shape.proofs.tree.push_edges.Given as goal

abbrev pub invariant-loop-node : goal.invariant-loop-node
invariant-loop-node l = l.edges.items ≡ l.initial.edges.items ++ map (edge_to l.from) (take l.node-index l.nodes)
