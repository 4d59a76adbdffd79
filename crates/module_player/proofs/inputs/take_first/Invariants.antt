use Rattle.module_player.proofs.Filling.{AreTaken}
use Rattle.module_player.proofs.inputs.take_first.Given as goal

abbrev pub invariant-loop-i : goal.invariant-loop-i
invariant-loop-i l = AreTaken l.given l.into l.initial.into l.i
