use Rattle.wasm_examples.proofs.Types.{sum_typed, choice_typed, add_untyped}
use Rattle.wasm_examples.proofs.code_has_types.Goals as goal

pub returns : goal.returns
returns c = record { sum = sum_typed; choice = choice_typed; no_operands = add_untyped }
