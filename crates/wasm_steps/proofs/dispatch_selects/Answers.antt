use Rattle.wasm_steps.proofs.Dispatch.{dispatch}
use Rattle.wasm_steps.proofs.dispatch_selects.Goals as goal

pub returns : goal.returns
returns c funcs = dispatch
