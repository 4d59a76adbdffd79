use Rattle.std.proofs.Common.{◌≡◌, ◌-◌, length}
use Rattle.wasm_reader.specs.Reading.{code_from, expression_at}
use Rattle.wasm_reader.proofs.Steps.{with_front}
use Rattle.wasm_reader.proofs.code.expression.Given as goal

abbrev pub invariant-loop : goal.invariant-loop
invariant-loop l = with_front l.code (code_from (length l.fn.cursor - l.counter) l.control l.cursor) ≡ expression_at l.fn.cursor
