use Rattle.std.proofs.Common.{ℕ, ◌<◌, ◌≡◌, length}
use Rattle.wasm_valid.specs.Bodies.{IsTypedAt}
use Rattle.wasm_valid.specs.RoomsOf.{AreNeedsOf}
use Rattle.wasm_valid.proofs.bodies.needs_of.Given as goal

abbrev pub invariant-loop-at : goal.invariant-loop-at
invariant-loop-at l = record {
  typed : (k : ℕ) → k < l.at → IsTypedAt l.«module» k;
  needs : AreNeedsOf l.«module» l.needs.items;
  count : length l.needs.items ≡ l.at;
}
