use Rattle.std.proofs.Common.{◌≡◌, take}
use Rattle.program_shape.proofs.same.are_same.Given as goal

abbrev pub invariant-loop-at : goal.invariant-loop-at
invariant-loop-at l = take l.at l.scalars ≡ take l.at l.others
