use Rattle.cm_meaning.specs.Declared.{State}
use Rattle.cm_meaning.specs.Scopes.{typed_state}
use Rattle.cm_tree.specs.declared.simple.Var.{Var}
use Rattle.declaration_walk.proofs.NameLemmas.{declares-one, last-map, last-next, last-start}
use Rattle.scope_walk.specs.Steps.{Introduces}
use Rattle.std.proofs.Common.{Some, [], ap, arith, length, refl, rules, ◌++◌, ◌-◌, ◌∙◌, ◌∷◌}
use Rattle.declaration_walk.proofs.names.declare_vars.Goals as goal

pub loop-index-init : goal.loop-index-init
loop-index-init c = last-start (λ h (x : Var). typed_state h c.args.ty.now x ∷ []) c.args.vars.now (length c.args.vars.now) c.args.steps.now refl

pub loop-index-preserved : goal.loop-index-preserved
loop-index-preserved c = last-next (λ h (x : Var). typed_state h c.args.ty.now x ∷ []) c.args.vars.now (c.loop-index.index - 1) c.loop-index.index c.index-vars-index.result c.args.steps.now c.loop-index.steps c.declare.new.self
    (omega (arith, c.loop-index-test.true)) (search rules) c.index-vars-index.is c.loop-index.invariant
    (declares-one c.loop-index.steps c.declare.new.self c.index-vars-index.result.name (State (Some c.args.ty.now) c.index-vars-index.result.value) (λ h. typed_state h c.args.ty.now c.index-vars-index.result ∷ []) (λ h. refl) (c.in_ok-declare.ensures ∙ ap (λ o. c.loop-index.steps ++ Introduces c.index-vars-index.result.name (State (Some c.args.ty.now) o) ∷ []) c.as_ref.ensures.value))

pub returns : goal.returns
returns c = last-map (λ h. typed_state h c.args.ty.now) c.args.vars.now c.loop-index.index c.args.steps.now c.loop-index.steps (let w = c.loop-index-test.false in omega arith) c.loop-index.invariant
