use Rattle.std.proofs.Common.{◌≡◌, ◌++◌, take, All}
use Rattle.std.specs.List.{flat_map}
use Rattle.wasm_writer.specs.Description.{run_bytes, Spelled_scalar_run}
use Rattle.wasm_writer.proofs.description.put_each_run.Given as goal

abbrev pub invariant-loop-run : goal.invariant-loop-run
invariant-loop-run l =
    let before = take l.run-index l.runs in
    record {
      appended : l.out.items ≡ l.fn.out.items ++ flat_map run_bytes before;
      spelled : All (λ run. Spelled_scalar_run run (run_bytes run)) before;
    }
