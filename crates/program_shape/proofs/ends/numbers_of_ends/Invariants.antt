use Rattle.std.proofs.Common.{◌≡◌, take, map}
use Rattle.cm_base.specs.declared.place.EndId.{EndId}
use Rattle.program_shape.specs.Shape.{all_ends}
use Rattle.program_shape.proofs.ends.numbers_of_ends.Given as goal

abbrev pub invariant-loop-node : goal.invariant-loop-node
invariant-loop-node l = l.numbers.items ≡ map (λ (e : EndId). e.0) (all_ends (take l.node-index l.program.nodes))
