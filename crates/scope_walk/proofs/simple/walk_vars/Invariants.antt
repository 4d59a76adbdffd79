use Rattle.std.proofs.Common.{take}
use Rattle.cm_meaning.specs.Scopes.{typed_local}
use Rattle.scope_walk.specs.Steps.{Walks}
use Rattle.scope_walk.proofs.LocalLemmas.{after_each, locals, var_value}
use Rattle.scope_walk.proofs.simple.walk_vars.Given as goal

abbrev pub invariant-loop-index : goal.invariant-loop-index
invariant-loop-index l = Walks l.fn.steps l.steps (λ r. locals (λ home. typed_local home l.ty) (var_value l.ty r) r (take l.index l.vars)) (λ r. after_each (λ home. typed_local home l.ty) r (take l.index l.vars))
