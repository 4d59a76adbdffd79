use Rattle.std.proofs.Common.{sym}
use Rattle.std.proofs.lemmas.List.{take_all}
use Rattle.std.proofs.lemmas.List.Elements.{All-same}
use Rattle.wasm_writer.proofs.Parts.{each_spelled, appended_more, all_more}
use Rattle.wasm_writer.proofs.encode.put_each.Goals as goal

pub loop-part-preserved : goal.loop-part-preserved
loop-part-preserved g c =
    let x = c.part-item.result in
    record {
      appended = appended_more g.P.Encode.shortest c.args.parts.now c.loop-part.part-index x c.args.out.now.items c.loop-part.out.items c.encode.new.out.items c.loop-part-test.true c.part-item.is c.loop-part.invariant.appended c.in_ok-encode.ensures.appended;
      spelled = all_more (λ part. g.P.Encode.spells part (g.P.Encode.shortest part)) c.args.parts.now c.loop-part.part-index x c.loop-part-test.true c.part-item.is c.loop-part.invariant.spelled c.in_ok-encode.ensures.spelled;
    }

pub returns-clause-spelled : goal.returns-clause-spelled
returns-clause-spelled g c =
    let P = λ (part : g.row.P.Denot). g.P.Encode.spells part (g.P.Encode.shortest part) in
    each_spelled g.P.Encode.spells g.P.Encode.shortest c.args.parts.now (All-same P c.args.parts.now _ (sym (take_all c.loop-part.part-index c.args.parts.now c.loop-part-test.false)) c.loop-part.invariant.spelled)
