use Rattle.std.proofs.Common.{◌≡◌, take, map}
use Rattle.cm_core.specs.Tree.{leaf_of}
use Rattle.graph_flat.proofs.flattening.leaves_of.Given as goal

abbrev pub invariant-loop-node : goal.invariant-loop-node
invariant-loop-node l = l.leaves.items ≡ map (leaf_of l.program) (take l.node-index l.nodes)
