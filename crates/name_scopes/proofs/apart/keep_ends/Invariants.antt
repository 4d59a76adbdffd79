use Rattle.std.proofs.Common.{Ok, take, flat_map}
use Rattle.name_scopes.specs.Apart.{KeepsApart, end_words}
use Rattle.name_scopes.proofs.apart.keep_ends.Given as goal

abbrev pub invariant-loop-end : goal.invariant-loop-end
invariant-loop-end l = KeepsApart l.fn.names (flat_map end_words (take l.end-index l.ends)) (Ok tt) l.names
