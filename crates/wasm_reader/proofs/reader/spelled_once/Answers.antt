use Rattle.wasm_reader.proofs.ModuleLaws as laws
use Rattle.wasm_reader.proofs.reader.spelled_once.Goals as goal

pub returns : goal.returns
returns c = laws.spelled_once
