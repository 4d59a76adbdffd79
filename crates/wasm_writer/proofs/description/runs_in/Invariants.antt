use Rattle.std.proofs.Common.{◌≡◌, take}
use Rattle.wasm_writer.specs.Description.{runs_of}
use Rattle.wasm_writer.proofs.description.runs_in.Given as goal

abbrev pub invariant-loop-kind : goal.invariant-loop-kind
invariant-loop-kind l = l.runs.items ≡ runs_of (take l.kind-index l.shape)
