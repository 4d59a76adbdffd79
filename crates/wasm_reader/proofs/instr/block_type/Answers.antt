use Rattle.std.proofs.Common.{◌≡◌, arith}
use Rattle.wasm_reader.proofs.Steps.{block_type-none}
use Rattle.wasm_reader.proofs.instr.block_type.Goals as goal

pub returns-in-None : goal.returns-in-None
returns-in-None c =
    rw (c.at.ensures, c.left-start.ensures) (block_type-none c.args.cursor.now c.in_ok-byte.byte c.byte.new.self c.in_ok-byte.ensures.value (λ (e : c.in_ok-byte.byte ≡ 0x40). absurd (omega arith)) c.in-None.ensures)
