use Rattle.std.proofs.Common.{Ok, take, flat_map}
use Rattle.name_scopes.specs.Apart.{KeepsApart, param_words}
use Rattle.name_scopes.proofs.apart.keep_params.Given as goal

abbrev pub invariant-loop-param : goal.invariant-loop-param
invariant-loop-param l = KeepsApart l.fn.names (flat_map param_words (take l.param-index l.params)) (Ok tt) l.names
