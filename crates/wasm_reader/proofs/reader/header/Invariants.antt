use Rattle.std.proofs.Common.{◌≡◌, drop}
use Rattle.wasm_reader.specs.Reading.{header_at}
use Rattle.wasm_reader.proofs.reader.header.Given as goal

abbrev pub invariant-loop-due : goal.invariant-loop-due
invariant-loop-due l = header_at (drop l.due-index l.due-items) l.cursor ≡ header_at l.due-items l.fn.cursor
