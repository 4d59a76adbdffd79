use Rattle.wasm_examples.proofs.Numbers.{three_bytes, five_bytes, not_six, not_open, minus_one, minus_65}
use Rattle.wasm_examples.proofs.numbers_are_spelled.Goals as goal

pub returns : goal.returns
returns c = record { three_bytes = three_bytes; five_bytes = five_bytes; not_six = not_six; not_open = not_open; minus_one = minus_one; minus_65 = minus_65 }
