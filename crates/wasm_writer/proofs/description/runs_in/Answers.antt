use Rattle.std.proofs.Common.{◌+◌, ◌<◌, ◌^◌}
use Rattle.std.proofs.lemmas.List.Elements.{All-same}
use Rattle.wasm_writer.specs.declared.description.ScalarRun.{ScalarRun}
use Rattle.wasm_writer.proofs.Runs.{counts_before}
use Rattle.wasm_writer.proofs.description.runs_in.Goals as goal

pub add_scalar-requires : goal.add_scalar-requires
add_scalar-requires c =
    All-same (λ (run : ScalarRun). run.count + 1 < 2 ^ 32) c.loop-kind.runs.items _ c.loop-kind.invariant (counts_before c.args.shape.now c.loop-kind.kind-index c.loop-kind-test.true c.requires)
