use Rattle.std.proofs.Common.{take}
use Rattle.cm_meaning.specs.Scopes.{inferred_local}
use Rattle.scope_walk.specs.Steps.{Walks}
use Rattle.scope_walk.proofs.LocalLemmas.{after_each, init_value, locals}
use Rattle.scope_walk.proofs.simple.walk_inferred.Given as goal

abbrev pub invariant-loop-init : goal.invariant-loop-init
invariant-loop-init l = Walks l.fn.steps l.steps (λ r. locals inferred_local (init_value inferred_local r) r (take l.init-index l.inits)) (λ r. after_each inferred_local r (take l.init-index l.inits))
