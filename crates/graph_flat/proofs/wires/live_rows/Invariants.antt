use Rattle.std.proofs.Common.{length, take}
use Rattle.graph_flat.specs.Wires.{AreRows}
use Rattle.graph_flat.proofs.wires.live_rows.Given as goal

abbrev pub invariant-loop-connection : goal.invariant-loop-connection
invariant-loop-connection l = AreRows (take l.connection-index l.connections) l.counts (length l.counts) l.rows
