use Rattle.wasm_runner.proofs.Preparing.{AreFirst}
use Rattle.wasm_runner.proofs.prepare.prepare.Given as goal

abbrev pub invariant-loop-i : goal.invariant-loop-i
invariant-loop-i l = AreFirst l.loaded l.functions.items l.i
