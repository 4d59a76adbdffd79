use Rattle.module_player.proofs.Written.{ValuesDone}
use Rattle.module_player.proofs.inputs.write_values.Given as goal

abbrev pub invariant-loop-i : goal.invariant-loop-i
invariant-loop-i l = ValuesDone l.slots l.current l.i l.runner l.initial.runner
