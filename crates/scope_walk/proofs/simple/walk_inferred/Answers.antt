use Rattle.std.proofs.Common.{arith, refl, Some, None}
use Rattle.cm_tree.specs.declared.simple.Init.{Init}
use Rattle.cm_meaning.specs.Declared.{LocalVariable}
use Rattle.cm_meaning.specs.Scopes.{inferred_local}
use Rattle.cm_meaning.specs.Sites.{expr_sites}
use Rattle.scope_walk.proofs.LocalLemmas.{init-read, init_value, locals-start, locals-next, inits-all}
use Rattle.scope_walk.proofs.simple.walk_inferred.Goals as goal

pub loop-init-init : goal.loop-init-init
loop-init-init c = locals-start inferred_local (init_value inferred_local) c.args.inits.now c.args.steps.now

pub loop-init-preserved : goal.loop-init-preserved
loop-init-preserved c = locals-next inferred_local (init_value inferred_local) (λ (y : Init). y.name) (λ (y : Init). LocalVariable None (Some y.value)) c.args.inits.now c.loop-init.init-index c.init-item.result c.args.steps.now c.loop-init.steps c.walk_expr.new.steps c.declare.new.self (λ home y. refl)
    c.loop-init-test.true c.init-item.is c.loop-init.invariant
    (init-read c.loop-init.steps c.meet_local.new.self c.walk_expr.new.steps c.init-item.result.name (LocalVariable None (Some c.init-item.result.value)) (λ r. expr_sites r c.init-item.result.value) c.in_ok-meet_local.ensures c.in_ok-walk_expr.ensures) c.in_ok-declare.ensures

pub returns : goal.returns
returns c = inits-all inferred_local c.args.inits.now c.loop-init.init-index c.args.steps.now c.loop-init.steps (let w = c.loop-init-test.false in let e = c.loop-init.auto.init-index-end in omega arith) c.loop-init.invariant
