use Rattle.std.proofs.Common.{length}
use Rattle.cm_base.specs.HostEnds.{AreDistinct, names_of}
use Rattle.json_rows.proofs.lawful.are_distinct.Given as goal

-- where no two of the endpoints that are left have one name, no two have
abbrev pub invariant-loop-end : goal.invariant-loop-end
invariant-loop-end l = AreDistinct (names_of l.left) → AreDistinct (names_of l.ends)

abbrev pub decreases-loop-end : goal.decreases-loop-end
decreases-loop-end l = length l.left
