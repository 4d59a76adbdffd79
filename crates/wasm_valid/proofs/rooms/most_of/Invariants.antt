use Rattle.std.proofs.Common.{take}
use Rattle.std.specs.List.{AllByRecursion}
use Rattle.wasm_valid.specs.RoomsOf.{IsWithinBounds}
use Rattle.wasm_valid.proofs.rooms.most_of.Given as goal

abbrev pub invariant-loop-room : goal.invariant-loop-room
invariant-loop-room l = AllByRecursion (IsWithinBounds l.most) (take l.room-index l.rooms)
