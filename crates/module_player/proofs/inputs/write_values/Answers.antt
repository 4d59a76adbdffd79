-- Endpoint by endpoint.
use Rattle.std.proofs.Common.{◌≡◌, ◌<◌, length, arith}
use Rattle.module_player.proofs.Written.{inside, values_length, value_at, values_next}
use Rattle.module_player.proofs.inputs.write_values.Goals as goal

pub bounds-current-i : goal.bounds-current-i
bounds-current-i c =
    omega (arith, inside c.args.slots.now c.host.result.now c.len-count.result c.loop-i.i c.loop-i-test.true c.len-count.ensures c.host.ensures.same, values_length c.args.slots.now c.args.current.now c.requires.current)

pub write_value-requires-clause-shaped : goal.write_value-requires-clause-shaped
write_value-requires-clause-shaped c = value_at c.args.slots.now c.args.current.now c.loop-i.i c.index-current-i.result c.requires.current c.index-current-i.is

pub loop-i-preserved : goal.loop-i-preserved
loop-i-preserved c =
    let l = inside c.args.slots.now c.host.result.now c.len-count.result c.loop-i.i c.loop-i-test.true c.len-count.ensures c.host.ensures.same in
    values_next c.args.slots.now c.args.current.now c.loop-i.i c.loop-i.runner c.args.runner.now c.write_value.new.runner c.index-current-i.result l c.requires.current c.loop-i.invariant c.index-current-i.is
    c.write_value.ensures.written c.write_value.ensures.same
