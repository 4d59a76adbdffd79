use Rattle.cm_meaning.specs.Declared.{Struct, Using}
use Rattle.cm_meaning.specs.Scopes.{constant, declared, shared_names}
use Rattle.declaration_walk.proofs.NameLemmas.{declares-none, one-name, same-names}
use Rattle.std.proofs.Common.{[], ap, map, sym, ◌∙◌, ◌∷◌}
use Rattle.declaration_walk.proofs.names.declare_shared.Goals as goal

pub returns-in-Struct : goal.returns-in-Struct
returns-in-Struct c = one-name c.args.steps.now c.declare.new.self c.in-Struct.name (Struct c.in-Struct.place c.as_slice.result.now) (λ h. shared_names h c.args.shared.now) c.declare.result
    (λ h. ap (shared_names h) c.in-Struct.is ∙ ap (λ z. declared h c.in-Struct.name (Struct c.in-Struct.place z) ∷ []) (sym c.as_slice.ensures)) c.declare.ensures

pub returns-in-Using : goal.returns-in-Using
returns-in-Using c = one-name c.args.steps.now c.declare-in-Using.new.self c.in-Using.name (Using c.in-Using.ty) (λ h. shared_names h c.args.shared.now) c.declare-in-Using.result (λ h. ap (shared_names h) c.in-Using.is) c.declare-in-Using.ensures

pub returns-in-Let : goal.returns-in-Let
returns-in-Let c = same-names c.args.steps.now c.declare_constants.new.steps (λ h. map (constant h) c.as_slice-in-Let.result.now) (λ h. shared_names h c.args.shared.now) c.declare_constants.result
    (λ h. ap (shared_names h) c.in-Let.is ∙ ap (map (constant h)) (sym c.as_slice-in-Let.ensures)) c.declare_constants.ensures

pub returns-in-Assert : goal.returns-in-Assert
returns-in-Assert c = declares-none c.args.steps.now (λ h. shared_names h c.args.shared.now) (λ h. ap (shared_names h) c.in-Assert.is)
