use Rattle.module_player.proofs.Written.{InputsDone}
use Rattle.module_player.proofs.inputs.write_inputs.Given as goal

abbrev pub invariant-loop-i : goal.invariant-loop-i
invariant-loop-i l = InputsDone l.slots l.streams l.frame l.current l.i l.runner l.initial.runner l.room
