use Rattle.std.proofs.Common.{◌↔◌, drop}
use Rattle.wasm_runner.specs.Snapshots.{AreNumbersOf, kept_types}
use Rattle.wasm_runner.proofs.snapshot.fit_globals.Given as goal

abbrev pub invariant-loop-var : goal.invariant-loop-var
invariant-loop-var l = AreNumbersOf (kept_types l.vars) l.kept ↔ AreNumbersOf (kept_types (drop l.var-index l.vars)) l.rest
