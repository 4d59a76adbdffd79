use Rattle.std.proofs.Common.{◌≡◌, length, map}
use Rattle.type_places.specs.Bytes.{bytes_of_structs}
use Rattle.type_places.specs.Held.{held, held_after}
use Rattle.type_places.proofs.widths.struct_bytes.Given as goal

abbrev pub invariant-loop-first : goal.invariant-loop-first
invariant-loop-first l = held_after l.known.items l.rest ≡ map held (bytes_of_structs l.structs)

abbrev pub decreases-loop-first : goal.decreases-loop-first
decreases-loop-first l = length l.rest
