use Rattle.std.proofs.Common.{take}
use Rattle.program_shape.specs.Shape.{AreIn}
use Rattle.program_shape.proofs.owners.are_in.Given as goal

abbrev pub invariant-loop-node : goal.invariant-loop-node
invariant-loop-node l = AreIn l.parents l.graph (take l.node-index l.nodes)
