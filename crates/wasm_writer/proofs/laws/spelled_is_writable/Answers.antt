use Rattle.wasm_writer.proofs.LeastModules.{spelled_writable}
use Rattle.wasm_writer.proofs.laws.spelled_is_writable.Goals as goal

pub returns : goal.returns
returns c = spelled_writable
