use Rattle.std.proofs.Common.{drop}
use Rattle.cm_front.proofs.TextLemmas.{ParsedTo}
use Rattle.cm_front.proofs.phases.parsed.Given as goal

abbrev pub invariant-loop-tokens : goal.invariant-loop-tokens
invariant-loop-tokens l = ParsedTo l.all (drop l.tokens-index l.all) l.found
