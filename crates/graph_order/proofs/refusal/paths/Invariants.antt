use Rattle.std.proofs.Common.{◌≡◌, map, take}
use Rattle.graph_order.specs.Cycle.{path_of}
use Rattle.graph_order.proofs.refusal.paths.Given as goal

abbrev pub invariant-loop-leaf : goal.invariant-loop-leaf
invariant-loop-leaf l = l.names.items ≡ map (path_of l.flat) (take l.leaf-index l.leaves)
