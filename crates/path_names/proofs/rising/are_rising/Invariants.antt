use Rattle.path_names.proofs.RisingLemmas.{AreRisingBelow}
use Rattle.path_names.proofs.rising.are_rising.Given as goal

abbrev pub invariant-loop-index : goal.invariant-loop-index
invariant-loop-index l = AreRisingBelow l.uses l.index
