use Rattle.std.proofs.Common.{◌≡◌, [], length, map}
use Rattle.cm_core.specs.Types.{counts_after}
use Rattle.memory_layout.specs.Held.{held, held_counts}
use Rattle.memory_layout.proofs.structs.struct_counts.Given as goal

abbrev pub invariant-loop-first : goal.invariant-loop-first
invariant-loop-first l = held_counts l.known.items l.rest ≡ map held (counts_after [] l.structs)

abbrev pub decreases-loop-first : goal.decreases-loop-first
decreases-loop-first l = length l.rest
