use Rattle.std.proofs.Common.{take}
use Rattle.module_player.specs.Rooms.{AreRooms}
use Rattle.module_player.proofs.outputs.rooms_of.Given as goal

abbrev pub invariant-loop-end : goal.invariant-loop-end
invariant-loop-end l = AreRooms (take l.end-index l.ends) l.rooms.items
