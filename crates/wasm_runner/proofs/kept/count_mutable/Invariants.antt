use Rattle.std.proofs.Common.{◌≡◌, ◌+◌, ◌≤◌, drop, length, min}
use Rattle.wasm_runner.specs.Snapshots.{kept_types}
use Rattle.wasm_runner.proofs.kept.count_mutable.Given as goal

abbrev pub invariant-loop-var : goal.invariant-loop-var
invariant-loop-var l = (min (l.count + length (kept_types (drop l.var-index l.vars))) 4294967295 ≡ min (length (kept_types l.vars)) 4294967295) × (l.count ≤ 4294967295)
