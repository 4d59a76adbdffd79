use Rattle.std.proofs.Common.{rules}
use Rattle.wasm_valid.specs.RoomsOf.{HasRoomAt}
use Rattle.wasm_valid.proofs.RoomLemmas.{room_more, room_each}
use Rattle.wasm_valid.proofs.rooms.have_room.Goals as goal

pub loop-at-preserved : goal.loop-at-preserved
loop-at-preserved c =
    let here : HasRoomAt c.args.«module».now c.args.rooms.now c.args.needs.now c.loop-at.at = c.has_room.ensures c.if-not-has_room.false in
    room_more c.args.«module».now c.args.rooms.now c.args.needs.now c.loop-at.at c.loop-at.invariant here

pub returns : goal.returns
returns c told k = room_each c.args.«module».now c.args.rooms.now c.args.needs.now c.loop-at.at k (search rules) c.loop-at.invariant
