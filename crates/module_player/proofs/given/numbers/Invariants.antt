use Rattle.module_player.proofs.Numbered.{AreNumbered}
use Rattle.module_player.proofs.given.numbers.Given as goal

abbrev pub invariant-loop-end : goal.invariant-loop-end
invariant-loop-end l = AreNumbered l.slots l.end-index l.number l.all.items
