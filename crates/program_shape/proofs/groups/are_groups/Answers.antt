use Rattle.cm_core.specs.Consistent.{IsGroup}
use Rattle.std.proofs.Common.{refl}
use Rattle.program_shape.proofs.Every.{all_step, all_done}
use Rattle.program_shape.proofs.groups.are_groups.Goals as goal

pub loop-group-preserved : goal.loop-group-preserved
loop-group-preserved c = all_step (IsGroup c.args.program.now) c.args.program.now.groups c.as_slice-group-items.result.now c.loop-group.group-index c.group-item.result c.as_slice-group-items.ensures c.loop-group-test.true c.group-item.is c.loop-group.invariant (c.if-not-is_group.ensures refl)

pub returns : goal.returns
returns c = λ _. all_done (IsGroup c.args.program.now) c.args.program.now.groups c.as_slice-group-items.result.now c.loop-group.group-index c.as_slice-group-items.ensures c.loop-group-test.false c.loop-group.invariant
