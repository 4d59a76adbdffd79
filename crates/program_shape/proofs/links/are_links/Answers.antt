use Rattle.program_shape.proofs.links.are_links.Goals as goal
use Rattle.std.proofs.Common.{refl}
use Rattle.cm_core.specs.Consistent.{IsLink}
use Rattle.program_shape.proofs.Every.{all_step_at, all_done}

pub loop-link-preserved : goal.loop-link-preserved
loop-link-preserved c = all_step_at (IsLink c.args.program.now) c.args.program.now.links c.as_slice-link-items.result.now c.loop-link.link-index _ c.as_slice-link-items.ensures c.loop-link-test.true c.loop-link.invariant (c.if-not-is_link.ensures refl)

pub returns : goal.returns
returns c = λ _. all_done (IsLink c.args.program.now) c.args.program.now.links c.as_slice-link-items.result.now c.loop-link.link-index c.as_slice-link-items.ensures c.loop-link-test.false c.loop-link.invariant
