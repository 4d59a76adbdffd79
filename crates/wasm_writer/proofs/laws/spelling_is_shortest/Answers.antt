use Rattle.wasm_writer.proofs.LeastModules.{spelling_least}
use Rattle.wasm_writer.proofs.laws.spelling_is_shortest.Goals as goal

pub returns : goal.returns
returns c = spelling_least
