use Rattle.wasm_valid.proofs.RoomLemmas.{bounds_from}
use Rattle.wasm_valid.proofs.rooms.checked_most.Goals as goal

pub returns : goal.returns
returns c =
    bounds_from c.args.«module».now c.args.rooms.now c.args.needs.now c.most_of.result c.requires.import c.requires.types c.requires.memory c.requires.bodies c.requires.needed c.requires.needs
    (c.are_sums.ensures.own c.if-not-are_sums.false) (c.are_sums.ensures.emit c.if-not-are_sums.false) (c.have_room.ensures c.if-not-have_room.false) c.most_of.ensures
