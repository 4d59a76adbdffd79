use Rattle.std.proofs.Common.{refl}
use Rattle.wasm_examples.proofs.Control.{block_ends, loop_ends, call_ends, first_label_ends, last_label_ends, unreachable_traps}
use Rattle.wasm_examples.proofs.control_reduces.Goals as goal

pub returns : goal.returns
returns c = record { block = block_ends; turns = loop_ends; function = call_ends; first_label = first_label_ends; last_label = last_label_ends; unreachable = unreachable_traps; cells = refl }
