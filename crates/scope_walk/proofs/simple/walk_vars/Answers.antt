use Rattle.std.proofs.Common.{arith, refl, ap, ◌∙◌, ◌++◌, ◌∷◌, [], Some}
use Rattle.cm_tree.specs.declared.simple.Var.{Var}
use Rattle.cm_meaning.specs.Declared.{LocalVariable}
use Rattle.cm_meaning.specs.Scopes.{typed_local}
use Rattle.cm_meaning.specs.Sites.{optional_sites}
use Rattle.scope_walk.specs.Steps.{Introduces, MeetsLocal}
use Rattle.scope_walk.proofs.LocalLemmas.{local-read, var_value, locals-start, locals-next, vars-all}
use Rattle.scope_walk.proofs.simple.walk_vars.Goals as goal

pub loop-index-init : goal.loop-index-init
loop-index-init c = locals-start (λ home. typed_local home c.args.ty.now) (var_value c.args.ty.now) c.args.vars.now c.args.steps.now

pub loop-index-preserved : goal.loop-index-preserved
loop-index-preserved c = locals-next (λ home. typed_local home c.args.ty.now) (var_value c.args.ty.now) (λ (y : Var). y.name) (λ (y : Var). LocalVariable (Some c.args.ty.now) y.value) c.args.vars.now c.loop-index.index c.index-vars-index.result
    c.args.steps.now c.loop-index.steps c.walk_optional.new.steps c.declare.new.self (λ home y. refl) c.loop-index-test.true c.index-vars-index.is c.loop-index.invariant
    (local-read c.loop-index.steps c.meet_local.new.self c.walk_optional.new.steps c.loop-index.index c.index-vars-index.result.name (LocalVariable (Some c.args.ty.now) c.index-vars-index.result.value) (λ r. optional_sites r c.index-vars-index.result.value)
    (c.in_ok-meet_local.ensures ∙ ap (λ o. c.loop-index.steps ++ MeetsLocal c.loop-index.index c.index-vars-index.result.name (LocalVariable (Some c.args.ty.now) o) ∷ []) c.as_ref.ensures.value) c.in_ok-walk_optional.ensures)
    (c.in_ok-declare.ensures ∙ ap (λ o. c.walk_optional.new.steps ++ Introduces c.index-vars-index.result.name (LocalVariable (Some c.args.ty.now) o) ∷ []) c.as_ref.ensures.value)

pub returns : goal.returns
returns c = vars-all c.args.ty.now c.args.vars.now c.loop-index.index c.args.steps.now c.loop-index.steps (let w = c.loop-index-test.false in let e = c.loop-index.auto.index-end in omega arith) c.loop-index.invariant
