use Rattle.std.proofs.Common.{Ok, take, flat_map}
use Rattle.name_scopes.specs.Apart.{KeepsApart, init_words}
use Rattle.name_scopes.proofs.apart.keep_inits.Given as goal

abbrev pub invariant-loop-init : goal.invariant-loop-init
invariant-loop-init l = KeepsApart l.fn.names (flat_map init_words (take l.init-index l.inits)) (Ok tt) l.names
