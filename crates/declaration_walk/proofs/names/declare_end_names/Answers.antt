use Rattle.cm_meaning.specs.Scopes.{end_name}
use Rattle.cm_tree.specs.declared.member.EndName.{EndName}
use Rattle.declaration_walk.proofs.NameLemmas.{last-map, last-next, last-start}
use Rattle.std.proofs.Common.{[], arith, length, refl, rules, ◌-◌, ◌∷◌}
use Rattle.declaration_walk.proofs.names.declare_end_names.Goals as goal

pub loop-index-init : goal.loop-index-init
loop-index-init c = last-start (λ h (x : EndName). end_name h c.args.flow c.args.end.now x ∷ []) c.args.names.now (length c.args.names.now) c.args.steps.now refl

pub loop-index-preserved : goal.loop-index-preserved
loop-index-preserved c = last-next (λ h (x : EndName). end_name h c.args.flow c.args.end.now x ∷ []) c.args.names.now (c.loop-index.index - 1) c.loop-index.index c.index-names-index.result c.args.steps.now c.loop-index.steps c.declare_end_name.new.steps
    (omega (arith, c.loop-index-test.true)) (search rules) c.index-names-index.is c.loop-index.invariant
    (c.in_ok-declare_end_name.ensures)

pub returns : goal.returns
returns c = last-map (λ h. end_name h c.args.flow c.args.end.now) c.args.names.now c.loop-index.index c.args.steps.now c.loop-index.steps (let w = c.loop-index-test.false in omega arith) c.loop-index.invariant
