use Rattle.std.proofs.Common.{refl}
use Rattle.wasm_tree.specs.Spelled.{IsConstant}
use Rattle.wasm_writer.proofs.Parts.{all_more, all_seen}
use Rattle.wasm_writer.proofs.writable.are_constant.Goals as goal

pub loop-global-preserved : goal.loop-global-preserved
loop-global-preserved c = all_more (λ global. IsConstant global.value) c.args.globals.now c.loop-global.global-index c.global-item.result c.loop-global-test.true c.global-item.is c.loop-global.invariant (c.is_constant.ensures.0 c.if-not-is_constant.false)

pub returns : goal.returns
returns c = ((λ _. all_seen (λ global. IsConstant global.value) c.args.globals.now c.loop-global.global-index c.loop-global-test.false c.loop-global.invariant), (λ _. refl))
