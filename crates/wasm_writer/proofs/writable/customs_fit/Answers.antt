use Rattle.std.proofs.Common.{◌<◌, ◌^◌, length, refl, arith}
use Rattle.wasm_writer.specs.Spelling.{custom_contents}
use Rattle.wasm_writer.proofs.Parts.{all_more, all_seen}
use Rattle.wasm_writer.proofs.writable.customs_fit.Goals as goal

pub loop-custom-preserved : goal.loop-custom-preserved
loop-custom-preserved c =
    let x = c.custom-item.result in
    let short : length (custom_contents x) < 2 ^ 32 = omega arith in
    all_more (λ custom. length (custom_contents custom) < 2 ^ 32) c.args.customs.now c.loop-custom.custom-index x c.loop-custom-test.true c.custom-item.is c.loop-custom.invariant short

pub returns : goal.returns
returns c = ((λ _. all_seen (λ custom. length (custom_contents custom) < 2 ^ 32) c.args.customs.now c.loop-custom.custom-index c.loop-custom-test.false c.loop-custom.invariant), (λ _. refl))
