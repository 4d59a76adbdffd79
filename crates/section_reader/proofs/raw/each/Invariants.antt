use Rattle.std.proofs.Common.{◌≡◌, ◌-◌}
use Rattle.wasm_reader.specs.Reading.{each_at}
use Rattle.wasm_reader.proofs.Steps.{with_front}
use Rattle.section_reader.specs.Reading.{slot_at}
use Rattle.section_reader.proofs.raw.each.Given as goal

abbrev pub invariant-loop : goal.invariant-loop
invariant-loop l = with_front l.slots.items (each_at slot_at (l.count - l.counter) l.cursor) ≡ each_at slot_at l.count l.fn.cursor
