use Rattle.std.proofs.Common.{◌≡◌, ◌∙◌, ◌+◌, ◌++◌, ◌≤◌, sym, arith, length, subst, take}
use Rattle.std.specs.Option.{IfSome}
use Rattle.wasm_runner.specs.Entries.{IsShaped}
use Rattle.module_player.specs.Rooms.{output_size, output_at}
use Rattle.module_player.proofs.RoomLemmas as R
use Rattle.module_player.proofs.outputs.read_at.Goals as goal

pub take_room-room-requires : goal.take_room-room-requires
take_room-room-requires c = let l = R.rooms_length c.args.slots.now c.args.rooms.now.items c.requires.rooms in let t = c.requires.there in omega arith

pub read_output-next-requires-clause-shaped : goal.read_output-next-requires-clause-shaped
read_output-next-requires-clause-shaped c =
    R.all_at IsShaped c.args.slots.now c.args.at _ c.requires.shaped
    (R.slot_read c.args.slots.now c.as_slice-ends.result.now c.as_slice-addresses.result.now c.args.at c.index-ends-at.result (c.as_slice-ends.ensures ∙ c.host.ensures.same) (c.as_slice-addresses.ensures ∙ c.addresses.ensures) c.requires.there c.index-ends-at.is)

pub read_output-next-requires-clause-room : goal.read_output-next-requires-clause-room
read_output-next-requires-clause-room c =
    R.room_at c.args.slots.now c.args.rooms.now.items c.args.at _ c.take_room-room.result c.requires.rooms
    (R.slot_read c.args.slots.now c.as_slice-ends.result.now c.as_slice-addresses.result.now c.args.at c.index-ends-at.result (c.as_slice-ends.ensures ∙ c.host.ensures.same) (c.as_slice-addresses.ensures ∙ c.addresses.ensures) c.requires.there c.index-ends-at.is)
    c.take_room-room.ensures.room

pub read_output-next-requires-clause-place : goal.read_output-next-requires-clause-place
read_output-next-requires-clause-place c =
    let found = R.slot_read c.args.slots.now c.as_slice-ends.result.now c.as_slice-addresses.result.now c.args.at c.index-ends-at.result (c.as_slice-ends.ensures ∙ c.host.ensures.same) (c.as_slice-addresses.ensures ∙ c.addresses.ensures) c.requires.there c.index-ends-at.is in
    subst (λ o. IfSome o (λ slot. c.args.place + output_size slot.end ≤ length c.args.into.now)) found c.requires.place

pub returns-clause-read : goal.returns-clause-read
returns-clause-read c =
    let found = R.slot_read c.args.slots.now c.as_slice-ends.result.now c.as_slice-addresses.result.now c.args.at c.index-ends-at.result (c.as_slice-ends.ensures ∙ c.host.ensures.same) (c.as_slice-addresses.ensures ∙ c.addresses.ensures) c.requires.there c.index-ends-at.is in
    subst (λ o. IfSome o (λ slot. take c.read_output-next.result c.read_output-next.new.into ≡ take c.args.place c.args.into.now ++ output_at slot c.args.entry c.args.memory.now)) (sym found) c.read_output-next.ensures.read

pub returns-clause-next : goal.returns-clause-next
returns-clause-next c =
    let found = R.slot_read c.args.slots.now c.as_slice-ends.result.now c.as_slice-addresses.result.now c.args.at c.index-ends-at.result (c.as_slice-ends.ensures ∙ c.host.ensures.same) (c.as_slice-addresses.ensures ∙ c.addresses.ensures) c.requires.there c.index-ends-at.is in
    subst (λ o. IfSome o (λ slot. c.read_output-next.result ≡ c.args.place + output_size slot.end)) (sym found) c.read_output-next.ensures.next

pub returns-clause-rooms : goal.returns-clause-rooms
returns-clause-rooms c =
    let found = R.slot_read c.args.slots.now c.as_slice-ends.result.now c.as_slice-addresses.result.now c.args.at c.index-ends-at.result (c.as_slice-ends.ensures ∙ c.host.ensures.same) (c.as_slice-addresses.ensures ∙ c.addresses.ensures) c.requires.there c.index-ends-at.is in
    let before = R.room_at c.args.slots.now c.args.rooms.now.items c.args.at _ c.take_room-room.result c.requires.rooms found c.take_room-room.ensures.room in
    R.rooms_back c.args.slots.now c.args.rooms.now.items c.take_room-room.new.rooms.items c.put_room.new.rooms.items c.args.at _ c.read_output-next.new.room c.requires.rooms found c.take_room-room.ensures.others c.put_room.ensures
    (c.read_output-next.ensures.room ∙ before)
