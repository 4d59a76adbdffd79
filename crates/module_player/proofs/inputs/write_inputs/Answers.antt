-- Endpoint by endpoint.
use Rattle.std.proofs.Common.{◌≡◌, ◌<◌, length, sym, ap, ◌∙◌, subst, arith}
use Rattle.std.specs.Prelude.{slice_get}
use Rattle.std.specs.Option.{IfSome}
use Rattle.module_player.proofs.Written.{inside, rooms_length, values_length, room_at, stream_at, value_at, inputs_next}
use Rattle.module_player.proofs.inputs.write_inputs.Goals as goal

pub bounds-current-i : goal.bounds-current-i
bounds-current-i c =
    omega (arith, inside c.args.slots.now c.host.result.now c.len-count.result c.loop-i.i c.loop-i-test.true c.len-count.ensures c.host.ensures.same, values_length c.args.slots.now c.args.current.now c.requires.current)

pub bounds-room-i : goal.bounds-room-i
bounds-room-i c =
    omega (arith, inside c.args.slots.now c.host.result.now c.len-count.result c.loop-i.i c.loop-i-test.true c.len-count.ensures c.host.ensures.same, rooms_length c.args.slots.now c.loop-i.room c.loop-i.invariant.long)

pub write_input-requires-clause-long : goal.write_input-requires-clause-long
write_input-requires-clause-long c =
    let l = inside c.args.slots.now c.host.result.now c.len-count.result c.loop-i.i c.loop-i-test.true c.len-count.ensures c.host.ensures.same in
    subst (λ room. IfSome (slice_get c.args.slots.now c.loop-i.i) (λ slot. length room ≡ length slot.end.shape)) c.index-room-i.is (room_at c.args.slots.now c.loop-i.room c.loop-i.i c.index-room-i.result l c.loop-i.invariant.long c.index-room-i.is)

pub write_input-requires-clause-shaped : goal.write_input-requires-clause-shaped
write_input-requires-clause-shaped c = stream_at c.args.slots.now c.args.streams.now c.args.frame c.loop-i.i c.given_of.result.now c.requires.inputs c.given_of.ensures

pub write_input-requires-clause-value : goal.write_input-requires-clause-value
write_input-requires-clause-value c = value_at c.args.slots.now c.args.current.now c.loop-i.i c.index-current-i.result c.requires.current c.index-current-i.is

pub loop-i-preserved : goal.loop-i-preserved
loop-i-preserved c =
    let l = inside c.args.slots.now c.host.result.now c.len-count.result c.loop-i.i c.loop-i-test.true c.len-count.ensures c.host.ensures.same in
    inputs_next c.args.slots.now c.args.streams.now c.args.frame c.args.current.now c.loop-i.i c.loop-i.runner c.args.runner.now c.write_input.new.runner c.loop-i.room c.index-room-i.result c.write_input.new.room c.given_of.result.now c.index-current-i.result
    l c.requires.current c.loop-i.invariant c.given_of.ensures c.index-current-i.is c.index-room-i.is (c.write_input.ensures.long ∙ ap length (sym c.index-room-i.is)) c.write_input.ensures.written c.write_input.ensures.same
