use Rattle.wasm_reader.proofs.Steps.{type-none}
use Rattle.wasm_reader.proofs.entries.ValTypeDecode.read.Goals as goal

pub returns-in-None : goal.returns-in-None
returns-in-None c = rw (c.at.ensures, c.left-start.ensures) (type-none c.args.cursor.now c.in_ok-byte.byte c.byte.new.self c.in_ok-byte.ensures.value c.in-None.ensures)
