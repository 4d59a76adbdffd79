use Rattle.std.proofs.Common.{◌∙◌, ◌≡◌, ◌+◌, ◌≤◌, ap, arith, length}
use Rattle.std.specs.Prelude.{slice_get}
use Rattle.std.proofs.lemmas.List.{length-map}
use Rattle.module_player.specs.Rooms.{output_size}
use Rattle.module_player.proofs.RoomLemmas as R
use Rattle.module_player.proofs.outputs.read_outputs.Goals as goal

pub read_at-place-requires-clause-place : goal.read_at-place-requires-clause-place
read_at-place-requires-clause-place c =
    R.if_some (slice_get c.args.slots.now c.loop-at.at) (λ slot. c.loop-at.place + output_size slot.end ≤ length c.loop-at.into)
    (λ slot found. R.read_room c.args.slots.now c.args.entry c.args.memory.now c.loop-at.at c.loop-at.place c.loop-at.into slot found c.loop-at.invariant.frame)

pub loop-at-preserved : goal.loop-at-preserved
loop-at-preserved c =
    let n : c.len-count.result ≡ length c.host.result.now = c.len-count.ensures in
    let m : length c.host.result.now ≡ length c.args.slots.now = ap length c.host.ensures.same ∙ length-map c.args.slots.now (λ slot. slot.end) in
    let t = c.loop-at-test.true in
    record {
      frame =
          R.read_next c.args.slots.now c.args.entry c.args.memory.now c.loop-at.at c.loop-at.place c.read_at-place.result c.loop-at.into c.read_at-place.new.into (omega arith) c.loop-at.invariant.frame
          c.read_at-place.ensures.next c.read_at-place.ensures.long c.read_at-place.ensures.read;
      rooms = c.read_at-place.ensures.rooms;
    }
