use Rattle.module_player.proofs.Resuming.{AreRestored}
use Rattle.module_player.proofs.given.restored.Given as goal

abbrev pub invariant-loop-end : goal.invariant-loop-end
invariant-loop-end l = AreRestored l.ends l.kept l.end-index l.rest l.all.items
