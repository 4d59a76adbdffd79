-- The frames of one block.
use Rattle.std.proofs.Common.{◌≡◌, ◌≤◌, ◌+◌, ◌++◌, ◌∷◌, ℕ, List, min, sym, ap, ◌∙◌, subst, arith, rules}
use Rattle.cm_base.specs.Parts.{Begin, Frame, Task, inputs_at}
use Rattle.wasm_tree.specs.Section.{ends_of, block_length}
use Rattle.module_player.specs.Coming.{frame_list}
use Rattle.module_player.specs.Given.{inputs_from}
use Rattle.module_player.specs.Cursors.{IsBlock, tasks_left}
use Rattle.module_player.proofs.Chains.{comes_from}
use Rattle.module_player.proofs.Quiet.{ArePlaces, block_is, block_tasks, block_places}
use Rattle.module_player.proofs.run.play_next.Goals as goal

pub play_frames-requires-clause-block : goal.play_frames-requires-clause-block
play_frames-requires-clause-block g c =
    let places : ArePlaces c.args.script.now c.args.cursor.now.frame c.args.cursor.now.value c.args.cursor.now.event = record { values = c.requires.values; events = c.requires.events } in
    subst (λ n. IsBlock (ends_of c.args.player.now.of.section) c.args.script.now n c.args.cursor.now.frame c.block_count-count.result) c.block-block.ensures.same
    (block_is (ends_of c.args.player.now.of.section) c.args.script.now c.block-block.result c.args.cursor.now.frame c.block_count-count.result c.args.cursor.now.value c.args.cursor.now.event places c.requires.frame
    c.block_count-count.ensures.some c.block_count-count.ensures.few c.block_count-count.ensures.counted)

pub returns-clause-comes : goal.returns-clause-comes
returns-clause-comes g c =
    let ends = ends_of c.args.player.now.of.section in
    let places : ArePlaces c.args.script.now c.args.cursor.now.frame c.args.cursor.now.value c.args.cursor.now.event = record { values = c.requires.values; events = c.requires.events } in
    let tasks =
    block_tasks ends c.args.script.now c.block-block.result c.args.cursor.now.frame c.block_count-count.result c.args.cursor.now.value c.args.cursor.now.event places c.requires.frame
    c.block_count-count.ensures.some c.block_count-count.ensures.counted in
    comes_from {T = g.row.T.Denot} g.T.Teller.tells c.args.player.now c.play_frames.new.player
    (frame_list c.args.cursor.now.frame (inputs_from ends c.args.script.now.streams c.args.cursor.now.frame c.block_count-count.result) ++ tasks_left ends c.args.script.now (c.args.cursor.now.frame + c.block_count-count.result))
    (Begin (Frame c.args.cursor.now.frame (inputs_at ends c.args.script.now.streams c.args.cursor.now.frame)) ∷ tasks_left ends c.args.script.now (c.args.cursor.now.frame + 1))
    (tasks_left ends c.args.script.now (c.args.cursor.now.frame + c.block_count-count.result)) c.args.teller.now c.play_frames.new.teller c.play_frames.result tasks c.play_frames.ensures.comes

pub returns-clause-cursor : goal.returns-clause-cursor
returns-clause-cursor g c =
    let places : ArePlaces c.args.script.now c.args.cursor.now.frame c.args.cursor.now.value c.args.cursor.now.event = record { values = c.requires.values; events = c.requires.events } in
    let after = block_places c.args.script.now c.block-block.result c.args.cursor.now.frame c.block_count-count.result c.args.cursor.now.value c.args.cursor.now.event places c.requires.frame c.block_count-count.ensures.some c.block_count-count.ensures.counted in
    let counted = c.block_count-count.ensures.counted in
    record { frame = omega (arith, counted); values = after.0; events = after.1 }
