use Rattle.std.proofs.Common.{◌∙◌, ap, rules, FitsSigned}
use Rattle.std.specs.Int.{w64}
use Rattle.std.proofs.lemmas.Int.{to_z-of_z}
use Rattle.cm_base.specs.Parts.{saved_value}
use Rattle.saved_state.proofs.Ending.{starts_on}
use Rattle.saved_state.proofs.finals.starts.Goals as goal

pub loop-end-preserved : goal.loop-end-preserved
loop-end-preserved c =
    let fits : FitsSigned w64 c.start.result = search rules in
    let pushed = rw (to_z-of_z w64 c.start.result fits) at c.in_ok-push.ensures.items in
    starts_on c.args.host.now c.args.saved.now c.loop-end.end-index c.end-item.result c.loop-end.now.items c.push.new.self.items _ c.start.result _ c.loop-end-test.true c.end-item.is
    (c.in_ok-map.ensures c.end-item.result.name ∙ ap (saved_value c.end-item.result.name) c.as_slice.ensures) c.start.ensures pushed c.loop-end.invariant
