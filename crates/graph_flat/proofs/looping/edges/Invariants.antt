use Rattle.std.proofs.Common.{◌≡◌, take, map}
use Rattle.graph_flat.specs.Edges.{edge_of}
use Rattle.graph_flat.proofs.looping.edges.Given as goal

abbrev pub invariant-loop-connection : goal.invariant-loop-connection
invariant-loop-connection l = l.edges.items ≡ map edge_of (take l.connection-index l.connections)
