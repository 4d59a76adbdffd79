use Rattle.wasm_steps.proofs.Control.{in_loop, again}
use Rattle.wasm_steps.proofs.loops_compose.Goals as goal

pub returns-clause-turn : goal.returns-clause-turn
returns-clause-turn c funcs result body n m es fs st st' st2 = again result

pub returns-clause-end : goal.returns-clause-end
returns-clause-end c funcs result body n es st st' = in_loop result
