use Rattle.std.proofs.Common.{◌≢◌, length}
use Rattle.std.specs.List.{AllByRecursion}
use Rattle.cm_base.specs.HostEnds.{names_of}
use Rattle.json_rows.proofs.lawful.is_new.Given as goal

-- where none of the endpoints that are left has the name, none has it
abbrev pub invariant-loop-end : goal.invariant-loop-end
invariant-loop-end l = AllByRecursion (λ other. other ≢ l.name) (names_of l.left) → AllByRecursion (λ other. other ≢ l.name) (names_of l.ends)

abbrev pub decreases-loop-end : goal.decreases-loop-end
decreases-loop-end l = length l.left
