use Rattle.std.proofs.Common.{take, All}
use Rattle.wasm_tree.specs.Valid.{IsBodyWithinLimits}
use Rattle.wasm_writer.proofs.writable.are_formed.Given as goal

abbrev pub invariant-loop-body : goal.invariant-loop-body
invariant-loop-body l = All IsBodyWithinLimits (take l.body-index l.bodies)
