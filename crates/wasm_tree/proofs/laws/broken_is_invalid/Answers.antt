use Rattle.wasm_tree.proofs.Refusals.{breaks_invalid}
use Rattle.wasm_tree.proofs.laws.broken_is_invalid.Goals as goal

pub returns : goal.returns
returns c = breaks_invalid
