use Rattle.std.proofs.Common.{arith}
use Rattle.std.proofs.lemmas.Int.{ints}
use Rattle.wasm_reader.proofs.Steps.{signed-short}
use Rattle.wasm_reader.proofs.cursor.Cursor.signed32.Goals as goal

pub returns-in-Some : goal.returns-in-Some
returns-in-Some c =
    signed-short 32 c.args.self.now c.in-Some.byte c.short.new.self c.signed_byte.result _ (omega arith) c.in-Some.ensures.taken.1 c.in-Some.ensures.taken.0 c.signed_byte.ensures.value (omega (arith, ints, c.signed_byte.ensures.low, c.signed_byte.ensures.high))
