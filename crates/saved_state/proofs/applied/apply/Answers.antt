use Rattle.std.proofs.Common.{◌≡◌, ◌∙◌, ap, arith, sym, subst}
use Rattle.std.proofs.lemmas.Grind.{common_steps}
use Rattle.cm_base.specs.Parts.{saved_value}
use Rattle.saved_state.specs.Applied.{values_of, AreValues}
use Rattle.saved_state.proofs.Applying.{values_on, values_in_range}
use Rattle.saved_state.proofs.applied.apply.Goals as goal

pub loop-end-preserved : goal.loop-end-preserved
loop-end-preserved c =
    let value = c.value_of.ensures in
    values_on c.as_slice-end-items.result.now c.args.saved.now c.loop-end.end-index c.end-item.result c.loop-end.values c.push_value.new.values _ _ c.loop-end-test.true c.end-item.is
    (c.in_ok-map.ensures c.end-item.result.name ∙ ap (saved_value c.end-item.result.name) c.as_slice.ensures) (rw (sym value) c.in_ok-push_value.ensures) c.loop-end.invariant

pub returns-clause-in_range : goal.returns-clause-in_range
returns-clause-in_range c =
    let same : c.loop-end.values ≡ values_of c.args.host.now c.args.saved.now = grind (arith, common_steps) in
    subst (AreValues c.args.host.now) (sym same) (values_in_range c.args.host.now c.args.saved.now c.requires.each)
