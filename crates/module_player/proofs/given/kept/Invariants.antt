use Rattle.module_player.proofs.Resuming.{AreKept}
use Rattle.module_player.proofs.given.kept.Given as goal

abbrev pub invariant-loop-number : goal.invariant-loop-number
invariant-loop-number l = AreKept l.ends l.current l.number l.all.items
