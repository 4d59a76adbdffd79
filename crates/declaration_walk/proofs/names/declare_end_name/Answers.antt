use Rattle.cm_meaning.specs.Declared.{Endpoint}
use Rattle.cm_meaning.specs.Scopes.{declared, end_name}
use Rattle.declaration_walk.proofs.NameLemmas.{one-name}
use Rattle.std.proofs.Common.{[], ap, sym, ◌∷◌}
use Rattle.declaration_walk.proofs.names.declare_end_name.Goals as goal

pub returns : goal.returns
returns c = one-name c.args.steps.now c.declare.new.self c.args.name.now.name (Endpoint c.args.flow c.args.end.now.kind c.args.end.now.ty c.as_slice.result.now) (λ h. end_name h c.args.flow c.args.end.now c.args.name.now ∷ []) c.declare.result
    (λ h. ap (λ z. declared h c.args.name.now.name (Endpoint c.args.flow c.args.end.now.kind c.args.end.now.ty z) ∷ []) (sym c.as_slice.ensures)) c.declare.ensures
