use Rattle.std.proofs.Common.{ℕ, ◌<◌}
use Rattle.wasm_valid.specs.RoomsOf.{HasRoomAt}
use Rattle.wasm_valid.proofs.rooms.have_room.Given as goal

abbrev pub invariant-loop-at : goal.invariant-loop-at
invariant-loop-at l = (k : ℕ) → k < l.at → HasRoomAt l.«module» l.rooms l.needs k
