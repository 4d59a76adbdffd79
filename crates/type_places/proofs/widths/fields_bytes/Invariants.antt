use Rattle.std.proofs.Common.{◌≡◌, ◌≤◌, ◌-◌, ◌^◌, ◌+◌, length, sum_by}
use Rattle.type_places.specs.Bytes.{bytes_in}
use Rattle.type_places.specs.Held.{held}
use Rattle.type_places.proofs.widths.fields_bytes.Given as goal

abbrev pub invariant-loop-first : goal.invariant-loop-first
invariant-loop-first l = (held (l.count + sum_by (bytes_in l.known) l.rest) ≡ held (sum_by (bytes_in l.known) l.fields)) × (l.count ≤ 2 ^ 64 - 1)

abbrev pub decreases-loop-first : goal.decreases-loop-first
decreases-loop-first l = length l.rest
