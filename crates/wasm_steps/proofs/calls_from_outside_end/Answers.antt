use Rattle.wasm_steps.proofs.Calls.{finishes_done, finishes_trapped}
use Rattle.wasm_steps.proofs.calls_from_outside_end.Goals as goal

pub returns-clause-end : goal.returns-clause-end
returns-clause-end c funcs body n m es st st' = finishes_done m

pub returns-clause-trap : goal.returns-clause-trap
returns-clause-trap c funcs body n m es st = finishes_trapped m
