use Rattle.wasm_steps.proofs.Bytes.{load_after_store}
use Rattle.wasm_steps.proofs.Windows.{window_apart}
use Rattle.wasm_steps.proofs.loads_find_stores.Goals as goal

pub returns-clause-loads : goal.returns-clause-loads
returns-clause-loads c = load_after_store

pub returns-clause-apart : goal.returns-clause-apart
returns-clause-apart c = window_apart
