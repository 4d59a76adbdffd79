use Rattle.wasm_valid.proofs.DescribedLemmas.{next_custom}
use Rattle.wasm_valid.proofs.described.cmajor_sections.Goals as goal

pub loop-custom-preserved : goal.loop-custom-preserved
loop-custom-preserved c = next_custom c.args.customs.now c.loop-custom.custom-index c.custom-item.result c.loop-custom.found c.with_custom-found.result c.loop-custom-test.true c.custom-item.is c.loop-custom.invariant c.with_custom-found.ensures
