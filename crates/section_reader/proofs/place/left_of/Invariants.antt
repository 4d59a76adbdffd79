use Rattle.std.proofs.Common.{◌≡◌, ◌-◌, length}
use Rattle.section_reader.specs.Places.{left_at}
use Rattle.section_reader.proofs.place.left_of.Given as goal

abbrev pub invariant-loop : goal.invariant-loop
invariant-loop l = left_at l.wanted l.before (length l.sections - l.counter) l.cursor ≡ left_at l.wanted l.fn.others (length l.sections) l.sections
