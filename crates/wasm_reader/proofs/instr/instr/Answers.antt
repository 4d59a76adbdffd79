use Rattle.std.proofs.Common.{length}
use Rattle.wasm_reader.specs.Reading.{instruction_at}
use Rattle.wasm_reader.proofs.Instructions.{behind-alone}
use Rattle.wasm_reader.proofs.instr.instr.Goals as goal

pub returns-in-Some : goal.returns-in-Some
unfolding instruction_at
returns-in-Some c =
    let alone = c.in-Some.ensures.some in
    rw (c.in_ok-opcode.ensures.value, ← alone.0) (behind-alone (length c.args.cursor.now) c.in-Some.instr c.byte.new.self alone.1)
