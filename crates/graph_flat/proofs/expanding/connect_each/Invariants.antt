use Rattle.std.proofs.Common.{◌≡◌, ◌++◌, take, false}
use Rattle.std.specs.Prelude.{map}
use Rattle.cm_core.specs.Expanded.{connection_of, pairs}
use Rattle.graph_flat.proofs.expanding.connect_each.Given as goal

abbrev pub invariant-loop-source : goal.invariant-loop-source
invariant-loop-source l = l.found.items ≡ l.initial.found.items ++ map (connection_of l.link) (pairs false (take l.source-index l.from) l.to)
