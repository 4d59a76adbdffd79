use Rattle.std.proofs.Common.{take, All}
use Rattle.cm_core.specs.Consistent.{IsGroup}
use Rattle.program_shape.proofs.groups.are_groups.Given as goal

abbrev pub invariant-loop-group : goal.invariant-loop-group
invariant-loop-group l = All (IsGroup l.program) (take l.group-index l.program.groups)
