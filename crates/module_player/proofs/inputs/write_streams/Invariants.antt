use Rattle.module_player.proofs.Written.{StreamsDone}
use Rattle.module_player.proofs.inputs.write_streams.Given as goal

abbrev pub invariant-loop-i : goal.invariant-loop-i
invariant-loop-i l = StreamsDone l.slots l.streams l.entry l.frame l.i l.runner l.initial.runner l.room
