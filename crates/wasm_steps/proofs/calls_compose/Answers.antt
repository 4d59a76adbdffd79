use Rattle.wasm_steps.proofs.Calls.{call_function, finishes_end, finishes_return, call_host}
use Rattle.wasm_steps.proofs.calls_compose.Goals as goal

pub returns-clause-function : goal.returns-clause-function
returns-clause-function c funcs f index n arguments es st st' = call_function st index arguments

pub returns-clause-at_end : goal.returns-clause-at_end
returns-clause-at_end c funcs body n es st st' = finishes_end

pub returns-clause-by_return : goal.returns-clause-by_return
returns-clause-by_return c funcs body n es st st' = finishes_return

pub returns-clause-host : goal.returns-clause-host
returns-clause-host c funcs = call_host
