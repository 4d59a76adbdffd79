use Rattle.wasm_reader.proofs.Steps.{index-short}
use Rattle.wasm_reader.proofs.cursor.Cursor.index.Goals as goal

pub returns-in-Some : goal.returns-in-Some
returns-in-Some c = index-short c.args.self.now c.in-Some.value c.short.new.self c.in-Some.ensures.taken.1 c.in-Some.ensures.taken.0
