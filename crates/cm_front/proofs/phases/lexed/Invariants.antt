use Rattle.std.proofs.Common.{◌+◌, drop}
use Rattle.cm_front.proofs.TextLemmas.{LexedTo}
use Rattle.cm_front.proofs.phases.lexed.Given as goal

abbrev pub invariant-loop-number : goal.invariant-loop-number
invariant-loop-number l = LexedTo l.sources (drop l.number l.sources) (l.number + 1) l.found
