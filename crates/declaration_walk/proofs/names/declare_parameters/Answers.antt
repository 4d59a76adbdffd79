use Rattle.cm_meaning.specs.Declared.{Parameter}
use Rattle.cm_meaning.specs.Scopes.{parameter}
use Rattle.cm_tree.specs.declared.type_expr.Typed.{Typed}
use Rattle.declaration_walk.proofs.NameLemmas.{declares-one, last-map, last-next, last-start}
use Rattle.std.proofs.Common.{[], arith, length, refl, rules, ◌-◌, ◌∷◌}
use Rattle.declaration_walk.proofs.names.declare_parameters.Goals as goal

pub loop-index-init : goal.loop-index-init
loop-index-init c = last-start (λ h (x : Typed). parameter h x ∷ []) c.args.params.now (length c.args.params.now) c.args.steps.now refl

pub loop-index-preserved : goal.loop-index-preserved
loop-index-preserved c = last-next (λ h (x : Typed). parameter h x ∷ []) c.args.params.now (c.loop-index.index - 1) c.loop-index.index c.index-params-index.result c.args.steps.now c.loop-index.steps c.declare.new.self
    (omega (arith, c.loop-index-test.true)) (search rules) c.index-params-index.is c.loop-index.invariant
    (declares-one c.loop-index.steps c.declare.new.self c.index-params-index.result.name (Parameter c.index-params-index.result.ty) (λ h. parameter h c.index-params-index.result ∷ []) (λ h. refl) (c.in_ok-declare.ensures))

pub returns : goal.returns
returns c = last-map (λ h. parameter h) c.args.params.now c.loop-index.index c.args.steps.now c.loop-index.steps (let w = c.loop-index-test.false in omega arith) c.loop-index.invariant
