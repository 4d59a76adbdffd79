use Rattle.std.proofs.Common.{◌≡◌, ◌++◌, take, map}
use Rattle.graph_flat.specs.Paths.{next_path}
use Rattle.graph_flat.proofs.searching.push_next.Given as goal

abbrev pub invariant-loop-connection : goal.invariant-loop-connection
invariant-loop-connection l = l.stack.items ≡ l.initial.stack.items ++ map (next_path l.jumps l.path) (take l.connection-index l.row)
