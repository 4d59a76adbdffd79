use Rattle.cm_meaning.specs.Declared.{Parameter}
use Rattle.declaration_walk.specs.Declares.{handled_sites}
use Rattle.cm_meaning.specs.Scopes.{parameter}
use Rattle.declaration_walk.proofs.NameLemmas.{declares-one}
use Rattle.declaration_walk.proofs.PartLemmas.{names-part}
use Rattle.std.proofs.Common.{[], refl, ◌∷◌}
use Rattle.declaration_walk.proofs.functions.walk_handler_scope.Goals as goal

pub returns : goal.returns
returns c = names-part c.args.steps.now c.enter.new.self c.declare.new.self c.walk_in_handler.new.steps c.leave.new.self (λ h. parameter h c.args.param.now ∷ []) (λ r. handled_sites r c.args.param.now c.args.body.now) c.leave.result
    c.in_ok-enter.ensures (declares-one c.enter.new.self c.declare.new.self c.args.param.now.name (Parameter c.args.param.now.ty) (λ h. parameter h c.args.param.now ∷ []) (λ h. refl) c.in_ok-declare.ensures) c.in_ok-walk_in_handler.ensures c.leave.ensures
