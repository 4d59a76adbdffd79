use Rattle.std.proofs.Common.{Ok, take, flat_map}
use Rattle.name_scopes.specs.Apart.{KeepsApart, var_words}
use Rattle.name_scopes.proofs.apart.keep_vars.Given as goal

abbrev pub invariant-loop-var : goal.invariant-loop-var
invariant-loop-var l = KeepsApart l.fn.names (flat_map var_words (take l.var-index l.vars)) (Ok tt) l.names
