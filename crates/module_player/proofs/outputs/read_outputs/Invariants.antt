use Rattle.module_player.specs.Rooms.{HaveRooms}
use Rattle.module_player.proofs.RoomLemmas.{IsRead}
use Rattle.module_player.proofs.outputs.read_outputs.Given as goal

abbrev pub invariant-loop-at : goal.invariant-loop-at
invariant-loop-at l = record { frame : IsRead l.slots l.entry l.memory l.at l.place l.into; rooms : HaveRooms l.slots l.rooms.items }
