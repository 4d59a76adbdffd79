-- Frame by frame.
use Rattle.module_player.proofs.Written.{block_first, block_next}
use Rattle.module_player.proofs.inputs.write_block.Goals as goal

pub loop-entry-init : goal.loop-entry-init
loop-entry-init c = block_first c.args.slots.now c.args.streams.now c.args.frame c.args.count c.args.runner.now c.args.room.now c.requires.long

pub loop-entry-preserved : goal.loop-entry-preserved
loop-entry-preserved c =
    block_next c.args.slots.now c.args.streams.now c.args.frame c.args.count c.loop-entry.entry c.loop-entry.runner c.args.runner.now c.write_streams.new.runner c.loop-entry.room c.write_streams.new.room c.loop-entry-test.true c.loop-entry.invariant
    c.write_streams.ensures.written c.write_streams.ensures.same c.write_streams.ensures.long
