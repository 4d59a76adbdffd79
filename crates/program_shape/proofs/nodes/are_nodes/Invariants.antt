use Rattle.std.proofs.Common.{take, All}
use Rattle.cm_core.specs.Consistent.{IsNode}
use Rattle.program_shape.proofs.nodes.are_nodes.Given as goal

abbrev pub invariant-loop-node : goal.invariant-loop-node
invariant-loop-node l = All (IsNode l.program) (take l.node-index l.program.nodes)
