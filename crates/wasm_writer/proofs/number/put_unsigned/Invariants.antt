use Rattle.std.proofs.Common.{◌≡◌, ◌++◌}
use Rattle.wasm_writer.specs.Spelling.{unsigned_bytes}
use Rattle.wasm_writer.proofs.number.put_unsigned.Given as goal

-- what is written and the bytes of the rest are all that is to be written
abbrev pub invariant-loop-rest : goal.invariant-loop-rest
invariant-loop-rest l = l.out.items ++ unsigned_bytes l.rest ≡ l.fn.out.items ++ unsigned_bytes l.number

abbrev pub decreases-loop-rest : goal.decreases-loop-rest
decreases-loop-rest l = l.rest
