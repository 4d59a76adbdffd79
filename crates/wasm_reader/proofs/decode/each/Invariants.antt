use Rattle.std.proofs.Common.{◌≡◌, ◌-◌}
use Rattle.wasm_reader.specs.Reading.{each_at}
use Rattle.wasm_reader.proofs.Steps.{with_front}
use Rattle.wasm_reader.proofs.decode.each.Given as goal

abbrev pub invariant-loop : goal.invariant-loop
invariant-loop g l = with_front l.items (each_at g.T.Decode.reads (l.count - l.counter) l.cursor) ≡ each_at g.T.Decode.reads l.count l.fn.cursor
