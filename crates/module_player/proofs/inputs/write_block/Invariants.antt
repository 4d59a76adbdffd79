use Rattle.module_player.proofs.Written.{BlockDone}
use Rattle.module_player.proofs.inputs.write_block.Given as goal

abbrev pub invariant-loop-entry : goal.invariant-loop-entry
invariant-loop-entry l = BlockDone l.slots l.streams l.frame l.count l.entry l.runner l.initial.runner l.room
