use Rattle.std.proofs.Common.{◌≡◌, take, map}
use Rattle.cm_core.specs.Tree.{end_at}
use Rattle.program_shape.proofs.same.are_alike.Given as goal

abbrev pub invariant-loop-at : goal.invariant-loop-at
invariant-loop-at l = map (end_at l.program) (take l.at l.ids) ≡ map (end_at l.program) (take l.at l.others)
