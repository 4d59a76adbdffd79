use Rattle.std.proofs.Common.{◌<◌, ℕ, get_or}
use Rattle.cm_base.specs.declared.host.HostEnd.{HostEnd}
use Rattle.cm_base.specs.declared.place.EndId.{EndId}
use Rattle.cm_core.specs.Tree.{node_at, end_at}
use Rattle.cm_core.specs.Consistent.{IsHostEnd}
use Rattle.program_shape.proofs.host.are_host_ends.Given as goal

abbrev pub invariant-loop-at : goal.invariant-loop-at
invariant-loop-at l = (k : ℕ) (d : HostEnd) (e : EndId) → k < l.at → IsHostEnd (get_or l.program.host k d) (end_at l.program (get_or (node_at l.program l.program.main).ends k e))
