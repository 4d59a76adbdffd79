use Rattle.cm_meaning.specs.Scopes.{param_names}
use Rattle.declaration_walk.specs.Declares.{Declares}
use Rattle.std.proofs.Common.{drop}
use Rattle.declaration_walk.proofs.names.declare_params.Given as goal

abbrev pub invariant-loop-index : goal.invariant-loop-index
invariant-loop-index l = Declares l.fn.steps l.steps (λ h. param_names h l.index (drop l.index l.params))
