use Rattle.cm_meaning.specs.Scopes.{end_names}
use Rattle.declaration_walk.proofs.NameLemmas.{last-all, last-next, last-start}
use Rattle.std.proofs.Common.{arith, length, refl, rules, ◌-◌}
use Rattle.declaration_walk.proofs.names.declare_ends.Goals as goal

pub loop-index-init : goal.loop-index-init
loop-index-init c = last-start (λ h. end_names h c.args.flow) c.args.ends.now (length c.args.ends.now) c.args.steps.now refl

pub loop-index-preserved : goal.loop-index-preserved
loop-index-preserved c = last-next (λ h. end_names h c.args.flow) c.args.ends.now (c.loop-index.index - 1) c.loop-index.index c.index-ends-index.result c.args.steps.now c.loop-index.steps c.declare_end.new.steps
    (omega (arith, c.loop-index-test.true)) (search rules) c.index-ends-index.is c.loop-index.invariant
    (c.in_ok-declare_end.ensures)

pub returns : goal.returns
returns c = last-all (λ h. end_names h c.args.flow) c.args.ends.now c.loop-index.index c.args.steps.now c.loop-index.steps (let w = c.loop-index-test.false in omega arith) c.loop-index.invariant
