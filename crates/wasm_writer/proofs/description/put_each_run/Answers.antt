use Rattle.std.proofs.Common.{sym}
use Rattle.std.proofs.lemmas.List.{take_all}
use Rattle.std.proofs.lemmas.List.Elements.{All-same}
use Rattle.wasm_writer.specs.Description.{run_bytes, Spelled_scalar_run}
use Rattle.wasm_writer.proofs.Parts.{each_spelled}
use Rattle.wasm_writer.proofs.Runs.{written_more, spelled_more}
use Rattle.wasm_writer.proofs.description.put_each_run.Goals as goal

pub loop-run-preserved : goal.loop-run-preserved
loop-run-preserved c = record {
  appended = written_more c.args.runs.now c.loop-run.run-index c.args.out.now.items c.loop-run.out.items c.put_run.new.out.items c.loop-run-test.true c.loop-run.invariant.appended c.in_ok-put_run.ensures.appended;
  spelled = spelled_more c.args.runs.now c.loop-run.run-index c.loop-run-test.true c.loop-run.invariant.spelled c.in_ok-put_run.ensures.spelled;
}

pub returns-clause-spelled : goal.returns-clause-spelled
returns-clause-spelled c =
    each_spelled Spelled_scalar_run run_bytes c.args.runs.now (All-same (λ run. Spelled_scalar_run run (run_bytes run)) c.args.runs.now _ (sym (take_all c.loop-run.run-index c.args.runs.now c.loop-run-test.false)) c.loop-run.invariant.spelled)
