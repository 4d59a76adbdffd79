use Rattle.wasm_examples.proofs.Operators.{by_zero, overflow, no_remainder, toward_zero, memory_ends, past_the_end}
use Rattle.wasm_examples.proofs.operators_reduce.Goals as goal

pub returns : goal.returns
returns c = record { by_zero = by_zero; overflow = overflow; no_remainder = no_remainder; toward_zero = toward_zero; memory = memory_ends; past_the_end = past_the_end }
