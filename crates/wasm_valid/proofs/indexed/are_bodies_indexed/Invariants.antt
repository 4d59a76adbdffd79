use Rattle.std.proofs.Common.{ℕ, ◌<◌}
use Rattle.wasm_valid.specs.Indexed.{IsIndexedAt}
use Rattle.wasm_valid.proofs.indexed.are_bodies_indexed.Given as goal

abbrev pub invariant-loop-at : goal.invariant-loop-at
invariant-loop-at l = (k : ℕ) → k < l.at → IsIndexedAt l.«module» k
