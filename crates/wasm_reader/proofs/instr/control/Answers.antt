use Rattle.std.proofs.Common.{arith}
use Rattle.wasm_reader.proofs.Instructions.{behind-none, not_control}
use Rattle.wasm_reader.proofs.instr.control.Goals as goal

pub returns-in_default : goal.returns-in_default
returns-in_default c =
    rw c.at.ensures (behind-none c.args.start c.args.opcode c.args.cursor.now (not_control c.args.opcode c.requires.other c.requires.low
    (omega arith, omega arith, omega arith, omega arith, omega arith, omega arith, omega arith, omega arith, omega arith, omega arith, omega arith, omega arith)))
