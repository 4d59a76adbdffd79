use Rattle.std.proofs.Common.{◌≡◌, ◌++◌, take}
use Rattle.graph_flat.specs.Ends.{with_flow}
use Rattle.cm_core.specs.Tree.{node_at}
use Rattle.graph_flat.proofs.ends.append_ends.Given as goal

abbrev pub invariant-loop-end : goal.invariant-loop-end
invariant-loop-end l = l.found.items ≡ l.initial.found.items ++ with_flow l.program l.flow (take l.end-index (node_at l.program l.fn.node).ends)
