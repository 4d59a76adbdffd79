use Rattle.wasm_runner.proofs.MutableGlobals.{AreKept}
use Rattle.wasm_runner.proofs.kept.put_kept.Given as goal

abbrev pub invariant-loop-i : goal.invariant-loop-i
invariant-loop-i l = AreKept l.vars l.globals l.i l.at l.into
