use Rattle.std.proofs.Common.{◌≡◌, ◌++◌, take, map}
use Rattle.cm_base.specs.declared.place.EndId.{EndId}
use Rattle.program_shape.proofs.ends.push_ends.Given as goal

abbrev pub invariant-loop-end : goal.invariant-loop-end
invariant-loop-end l = l.numbers.items ≡ l.initial.numbers.items ++ map (λ (e : EndId). e.0) (take l.end-index l.ends)
