use Rattle.wasm_steps.proofs.Example.{fill_runs}
use Rattle.wasm_steps.proofs.fill_runs.Goals as goal

pub returns : goal.returns
returns c = fill_runs
