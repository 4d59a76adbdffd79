use Rattle.std.proofs.Common.{◌≡◌, ◌++◌, take}
use Rattle.wasm_valid.specs.CallEdges.{calls_in}
use Rattle.wasm_valid.proofs.calls.add_calls.Given as goal

abbrev pub invariant-loop-instr : goal.invariant-loop-instr
invariant-loop-instr l = l.edges.items ≡ l.fn.edges.items ++ calls_in l.from (take l.instr-index l.code)
