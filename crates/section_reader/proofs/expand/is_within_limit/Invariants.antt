use Rattle.std.proofs.Common.{◌≡◌, ◌≤◌, take}
use Rattle.section_reader.specs.Raw.{scalars_of}
use Rattle.section_reader.proofs.expand.is_within_limit.Given as goal

abbrev pub invariant-loop-slot : goal.invariant-loop-slot
invariant-loop-slot l = record { counted : l.count ≡ scalars_of (take l.slot-index l.slots); within : l.count ≤ 1048576 }
