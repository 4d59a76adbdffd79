use Rattle.std.proofs.Common.{◌≡◌, ◌-◌}
use Rattle.saved_state.specs.Reading.{each_at}
use Rattle.saved_state.proofs.Steps.{with_front}
use Rattle.saved_state.proofs.cursor.each.Given as goal

abbrev pub invariant-loop : goal.invariant-loop
invariant-loop g l = with_front l.parts (each_at g.P.Part.reads (l.count - l.counter) l.cursor) ≡ each_at g.P.Part.reads l.count l.fn.cursor
