use Rattle.wasm_tree.proofs.SectionCodes.{section_unique}
use Rattle.wasm_tree.proofs.laws.section_is_unique.Goals as goal

pub returns : goal.returns
returns c = section_unique
