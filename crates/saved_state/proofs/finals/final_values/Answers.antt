use Rattle.std.proofs.Common.{◌∙◌, sym, subst}
use Rattle.saved_state.specs.Applied.{AreValues}
use Rattle.saved_state.proofs.Ending.{long_after, finals_are, finals_in_range}
use Rattle.saved_state.proofs.finals.final_values.Goals as goal

pub kept-requires : goal.kept-requires
kept-requires c =
    let start = rw c.as_slice.ensures at c.in_ok-now.ensures in
    let at_values = rw c.as_slice-2.ensures at c.replace_each.ensures in
    let at_events = rw c.as_slice-3.ensures at c.replace_each-2.ensures in
    rw (c.deref.ensures.value, c.as_slice-4.ensures) (long_after c.args.host.now c.args.saved.now _ _ _ c.args.script.now.values c.args.script.now.events start at_values at_events)

pub returns-clause-values : goal.returns-clause-values
returns-clause-values c =
    let start = rw c.as_slice.ensures at c.in_ok-now.ensures in
    let at_values = rw c.as_slice-2.ensures at c.replace_each.ensures in
    let at_events = rw c.as_slice-3.ensures at c.replace_each-2.ensures in
    let kept = rw (c.deref.ensures.value, c.as_slice-4.ensures) at c.in_ok-kept.ensures in
    kept ∙ finals_are c.args.host.now c.args.saved.now c.args.script.now _ _ _ start at_values at_events

pub returns-clause-in_range : goal.returns-clause-in_range
returns-clause-in_range c =
    let start = rw c.as_slice.ensures at c.in_ok-now.ensures in
    let at_values = rw c.as_slice-2.ensures at c.replace_each.ensures in
    let at_events = rw c.as_slice-3.ensures at c.replace_each-2.ensures in
    let kept = rw (c.deref.ensures.value, c.as_slice-4.ensures) at c.in_ok-kept.ensures in
    subst (AreValues c.args.host.now) (sym (kept ∙ finals_are c.args.host.now c.args.saved.now c.args.script.now _ _ _ start at_values at_events))
    (finals_in_range c.args.host.now c.args.saved.now c.args.script.now c.requires.lawful c.requires.saved c.requires.script)
