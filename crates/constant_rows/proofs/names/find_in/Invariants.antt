use Rattle.std.proofs.Common.{◌≡◌, length}
use Rattle.constant_rows.specs.Names.{known_in}
use Rattle.constant_rows.proofs.names.find_in.Given as goal

abbrev pub invariant-loop-entry : goal.invariant-loop-entry
invariant-loop-entry l = known_in l.name l.entries ≡ known_in l.name l.all

abbrev pub decreases-loop-entry : goal.decreases-loop-entry
decreases-loop-entry l = length l.entries
