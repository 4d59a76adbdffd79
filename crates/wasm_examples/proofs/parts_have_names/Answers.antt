use Rattle.wasm_examples.proofs.Stops.{third_part, third_name, first_name}
use Rattle.wasm_examples.proofs.parts_have_names.Goals as goal

pub returns : goal.returns
returns c = record { third = third_part; name = third_name; first = first_name }
