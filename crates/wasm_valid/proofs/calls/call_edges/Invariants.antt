use Rattle.std.proofs.Common.{◌≡◌, take}
use Rattle.wasm_valid.specs.CallEdges.{all_calls}
use Rattle.wasm_valid.proofs.calls.call_edges.Given as goal

abbrev pub invariant-loop-at : goal.invariant-loop-at
invariant-loop-at l = l.edges.items ≡ all_calls 1 (take l.at l.bodies)
