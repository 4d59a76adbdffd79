use Rattle.std.proofs.Common.{◌≡◌, drop}
use Rattle.cm_base.specs.Parts.{start_of}
use Rattle.module_player.proofs.played.start_value.Given as goal

abbrev pub invariant-loop-entry : goal.invariant-loop-entry
invariant-loop-entry l = start_of l.end l.range (drop l.entry-index l.saved) ≡ start_of l.end l.range l.saved
