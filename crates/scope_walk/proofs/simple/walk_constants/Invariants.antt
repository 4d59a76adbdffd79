use Rattle.std.proofs.Common.{take}
use Rattle.cm_meaning.specs.Scopes.{local_constant}
use Rattle.scope_walk.specs.Steps.{Walks}
use Rattle.scope_walk.proofs.LocalLemmas.{after_each, init_value, locals}
use Rattle.scope_walk.proofs.simple.walk_constants.Given as goal

abbrev pub invariant-loop-init : goal.invariant-loop-init
invariant-loop-init l = Walks l.fn.steps l.steps (λ r. locals local_constant (init_value local_constant r) r (take l.init-index l.inits)) (λ r. after_each local_constant r (take l.init-index l.inits))
