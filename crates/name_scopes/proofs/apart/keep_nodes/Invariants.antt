use Rattle.std.proofs.Common.{Ok, take, flat_map}
use Rattle.name_scopes.specs.Apart.{KeepsApart, node_words}
use Rattle.name_scopes.proofs.apart.keep_nodes.Given as goal

abbrev pub invariant-loop-node : goal.invariant-loop-node
invariant-loop-node l = KeepsApart l.fn.names (flat_map node_words (take l.node-index l.nodes)) (Ok tt) l.names
