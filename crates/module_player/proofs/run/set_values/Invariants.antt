use Rattle.module_player.proofs.Going.{AreSet}
use Rattle.module_player.proofs.run.set_values.Given as goal

abbrev pub invariant-loop-at : goal.invariant-loop-at
invariant-loop-at l = AreSet l.script.values l.frame l.at l.initial.player l.player
