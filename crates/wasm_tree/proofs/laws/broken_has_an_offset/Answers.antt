use Rattle.wasm_tree.proofs.Offsets.{refusable}
use Rattle.wasm_tree.proofs.laws.broken_has_an_offset.Goals as goal

pub returns : goal.returns
returns c = refusable
