use Rattle.wasm_runner.proofs.Restored.{AreRestored}
use Rattle.wasm_runner.proofs.snapshot.restored.Given as goal

abbrev pub invariant-loop-var : goal.invariant-loop-var
invariant-loop-var l = AreRestored l.vars l.kept l.var-index l.at l.globals.items
