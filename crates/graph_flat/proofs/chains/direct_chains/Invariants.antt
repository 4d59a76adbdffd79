use Rattle.std.proofs.Common.{◌≡◌, take, map}
use Rattle.cm_core.specs.Tree.{starts}
use Rattle.cm_core.specs.Routes.{direct}
use Rattle.graph_flat.proofs.chains.direct_chains.Given as goal

abbrev pub invariant-loop-start : goal.invariant-loop-start
invariant-loop-start l = l.chains.items ≡ map (direct l.program) (take l.start-index (starts l.program))
