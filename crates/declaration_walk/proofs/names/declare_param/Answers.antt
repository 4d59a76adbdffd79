use Rattle.cm_meaning.specs.Declared.{TypeParameter, ValueParameter}
use Rattle.cm_meaning.specs.Scopes.{param_name}
use Rattle.declaration_walk.proofs.NameLemmas.{one-name}
use Rattle.std.proofs.Common.{[], ap, ◌∷◌}
use Rattle.declaration_walk.proofs.names.declare_param.Goals as goal

pub returns-in-Type : goal.returns-in-Type
returns-in-Type c = one-name c.args.steps.now c.declare.new.self c.in-Type.name (TypeParameter c.args.position) (λ h. param_name h c.args.position c.args.param.now ∷ []) c.declare.result (λ h. ap (λ z. param_name h c.args.position z ∷ []) c.in-Type.is) c.declare.ensures

pub returns-in-Value : goal.returns-in-Value
returns-in-Value c = one-name c.args.steps.now c.declare-in-Value.new.self c.in-Value.name (ValueParameter c.args.position c.in-Value.ty) (λ h. param_name h c.args.position c.args.param.now ∷ []) c.declare-in-Value.result (λ h. ap (λ z. param_name h c.args.position z ∷ []) c.in-Value.is) c.declare-in-Value.ensures
