use Rattle.cm_meaning.specs.Declared.{Constant}
use Rattle.cm_meaning.specs.Scopes.{constant}
use Rattle.cm_tree.specs.declared.simple.Init.{Init}
use Rattle.declaration_walk.proofs.NameLemmas.{declares-one, last-map, last-next, last-start}
use Rattle.std.proofs.Common.{[], arith, length, refl, rules, ◌-◌, ◌∷◌}
use Rattle.declaration_walk.proofs.names.declare_constants.Goals as goal

pub loop-index-init : goal.loop-index-init
loop-index-init c = last-start (λ h (x : Init). constant h x ∷ []) c.args.inits.now (length c.args.inits.now) c.args.steps.now refl

pub loop-index-preserved : goal.loop-index-preserved
loop-index-preserved c = last-next (λ h (x : Init). constant h x ∷ []) c.args.inits.now (c.loop-index.index - 1) c.loop-index.index c.index-inits-index.result c.args.steps.now c.loop-index.steps c.declare.new.self
    (omega (arith, c.loop-index-test.true)) (search rules) c.index-inits-index.is c.loop-index.invariant
    (declares-one c.loop-index.steps c.declare.new.self c.index-inits-index.result.name (Constant c.index-inits-index.result.value) (λ h. constant h c.index-inits-index.result ∷ []) (λ h. refl) (c.in_ok-declare.ensures))

pub returns : goal.returns
returns c = last-map (λ h. constant h) c.args.inits.now c.loop-index.index c.args.steps.now c.loop-index.steps (let w = c.loop-index-test.false in omega arith) c.loop-index.invariant
