use Rattle.std.proofs.Common.{◌≡◌, ◌++◌, take, map}
use Rattle.graph_flat.specs.Paths.{leap}
use Rattle.graph_flat.proofs.searching.push_first.Given as goal

abbrev pub invariant-loop-connection : goal.invariant-loop-connection
invariant-loop-connection l = l.stack.items ≡ l.initial.stack.items ++ map (leap l.jumps) (take l.connection-index l.row)
