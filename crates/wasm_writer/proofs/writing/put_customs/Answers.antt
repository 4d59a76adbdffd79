use Rattle.wasm_tree.specs.Spelled.{Custom_contents}
use Rattle.wasm_writer.specs.Spelling.{custom_bytes, custom_contents}
use Rattle.wasm_writer.proofs.Parts.{appended_more, all_more}
use Rattle.wasm_writer.proofs.writing.put_customs.Goals as goal

pub loop-custom-preserved : goal.loop-custom-preserved
loop-custom-preserved c =
    let x = c.custom-item.result in
    record {
      appended = appended_more custom_bytes c.args.customs.now c.loop-custom.custom-index x c.args.out.now.items c.loop-custom.out.items c.put_custom.new.out.items c.loop-custom-test.true c.custom-item.is c.loop-custom.invariant.appended c.in_ok-put_custom.ensures.appended;
      spelled = all_more (λ custom. Custom_contents custom (custom_contents custom)) c.args.customs.now c.loop-custom.custom-index x c.loop-custom-test.true c.custom-item.is c.loop-custom.invariant.spelled c.in_ok-put_custom.ensures.spelled;
    }
