use Rattle.std.proofs.Common.{◌≡◌, ◌-◌, length}
use Rattle.wasm_reader.specs.Reading.{customs_at}
use Rattle.wasm_reader.proofs.section.customs.Given as goal

abbrev pub invariant-loop : goal.invariant-loop
invariant-loop l = customs_at (length l.fn.cursor - l.counter) l.found l.cursor ≡ customs_at (length l.fn.cursor) l.fn.found l.fn.cursor
