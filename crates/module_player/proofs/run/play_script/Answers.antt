-- Step by step.
use Rattle.std.proofs.Common.{◌≡◌, true, false, refl, rules}
use Rattle.wasm_tree.specs.Section.{ends_of}
use Rattle.module_player.proofs.Going.{played_first, played_next, played_early, played_all}
use Rattle.module_player.proofs.run.play_script.Goals as goal

pub loop-cursor-init : goal.loop-cursor-init
loop-cursor-init g c = played_first {T = g.row.T.Denot} g.T.Teller.tells (ends_of c.args.player.now.of.section) c.args.script.now (record { frame = 0; value = 0; event = 0 }) c.args.player.now c.args.teller.now refl refl refl c.requires.script c.requires.live

pub returns-then-not-has_ended-clause-comes : goal.returns-then-not-has_ended-clause-comes
returns-then-not-has_ended-clause-comes g c =
    let off : c.has_ended.result ≡ false = search rules in
    played_early {T = g.row.T.Denot} g.T.Teller.tells (ends_of c.args.player.now.of.section) c.args.script.now c.loop-cursor.cursor c.play_step-came.new.cursor c.args.player.now c.loop-cursor.player c.play_step-came.new.player c.args.teller.now c.loop-cursor.teller c.play_step-came.new.teller
    c.play_step-came.result c.loop-cursor.invariant c.play_step-came.ensures.comes refl (c.has_ended.ensures.other off)

pub loop-cursor-preserved : goal.loop-cursor-preserved
loop-cursor-preserved g c =
    let on : c.has_ended.result ≡ true = search rules in
    let ended = c.has_ended.ensures.done on in
    played_next {T = g.row.T.Denot} g.T.Teller.tells (ends_of c.args.player.now.of.section) c.args.script.now c.loop-cursor.cursor c.play_step-came.new.cursor c.args.player.now c.loop-cursor.player c.play_step-came.new.player c.args.teller.now c.loop-cursor.teller c.play_step-came.new.teller
    c.play_step-came.result c.loop-cursor.invariant c.play_step-came.ensures.comes refl c.play_step-came.ensures.same ended (c.play_step-came.ensures.live ended) (c.play_step-came.ensures.cursor ended)

pub returns-clause-comes : goal.returns-clause-comes
returns-clause-comes g c =
    played_all {T = g.row.T.Denot} g.T.Teller.tells (ends_of c.args.player.now.of.section) c.args.script.now c.loop-cursor.cursor c.args.player.now c.loop-cursor.player c.args.teller.now c.loop-cursor.teller c.loop-cursor-test.false c.loop-cursor.invariant
