use Rattle.wasm_steps.proofs.Control.{in_block, block_left, in_if}
use Rattle.wasm_steps.proofs.blocks_compose.Goals as goal

pub returns-clause-block : goal.returns-clause-block
returns-clause-block c funcs result body n es st st' = in_block result

pub returns-clause-block_left : goal.returns-clause-block_left
returns-clause-block_left c funcs result body n es st st' = block_left result

pub returns-clause-arms : goal.returns-clause-arms
returns-clause-arms c funcs result first second x n es st st' = in_if result first second x
