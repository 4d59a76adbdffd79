use Rattle.wasm_steps.proofs.Compose.{both, both_meets}
use Rattle.wasm_steps.proofs.sequences_compose.Goals as goal

pub returns-clause-does : goal.returns-clause-does
returns-clause-does c funcs a b n m es fs st st1 st2 = both

pub returns-clause-meets : goal.returns-clause-meets
returns-clause-meets c funcs a b n m es fs st st1 step = both_meets
