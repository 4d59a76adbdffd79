-- The inits, the starting values and the frames.
use Rattle.std.proofs.Common.{◌≡◌, [], ◌∷◌, true, false, rules}
use Rattle.cm_base.specs.Parts.{Init, Begin, inputs_at, start_tasks, frames_from, tasks_after_init}
use Rattle.wasm_tree.specs.Section.{ends_of}
use Rattle.module_player.proofs.Going.{whole_early, whole_from_init, whole_from_start}
use Rattle.module_player.proofs.played.play_whole.Goals as goal

pub returns-then-not-has_ended-clause-comes : goal.returns-then-not-has_ended-clause-comes
returns-then-not-has_ended-clause-comes g c =
    let off : c.has_ended.result ≡ false = search rules in
    whole_early {T = g.row.T.Denot} g.T.Teller.tells c.args.player.now c.init-came.new.self (Begin Init ∷ []) (tasks_after_init (ends_of c.args.player.now.of.section) c.args.saved.now c.args.script.now c.args.script.now.frames) c.args.teller.now c.init-came.new.teller c.init-came.result (c.has_ended.ensures.other off) c.init-came.ensures.comes

pub returns-then-not-has_ended-2-clause-comes : goal.returns-then-not-has_ended-2-clause-comes
returns-then-not-has_ended-2-clause-comes g c =
    let on : c.has_ended.result ≡ true = search rules in
    let off : c.has_ended-2.result ≡ false = search rules in
    let ends = ends_of c.init-came.new.self.of.section in
    whole_from_init {T = g.row.T.Denot} g.T.Teller.tells c.args.script.now c.args.saved.now c.args.player.now c.init-came.new.self c.start_all-came.new.player c.args.teller.now c.init-came.new.teller c.start_all-came.new.teller c.init-came.result c.start_all-came.result
    c.init-came.ensures.same (c.has_ended.ensures.done on) c.init-came.ensures.comes
    (whole_early {T = g.row.T.Denot} g.T.Teller.tells c.init-came.new.self c.start_all-came.new.player (start_tasks ends 0 c.args.saved.now (inputs_at ends [] 0)) (frames_from ends c.args.script.now 0 c.args.script.now.frames) c.init-came.new.teller c.start_all-came.new.teller c.start_all-came.result (c.has_ended-2.ensures.other off) c.start_all-came.ensures.comes)

pub returns-clause-comes : goal.returns-clause-comes
returns-clause-comes g c =
    let on : c.has_ended.result ≡ true = search rules in
    let on2 : c.has_ended-2.result ≡ true = search rules in
    whole_from_init {T = g.row.T.Denot} g.T.Teller.tells c.args.script.now c.args.saved.now c.args.player.now c.init-came.new.self c.play_script.new.player c.args.teller.now c.init-came.new.teller c.play_script.new.teller c.init-came.result c.play_script.result
    c.init-came.ensures.same (c.has_ended.ensures.done on) c.init-came.ensures.comes
    (whole_from_start {T = g.row.T.Denot} g.T.Teller.tells c.args.script.now c.args.saved.now c.init-came.new.self c.start_all-came.new.player c.play_script.new.player c.init-came.new.teller c.start_all-came.new.teller c.play_script.new.teller c.start_all-came.result c.play_script.result
    c.start_all-came.ensures.same (c.has_ended-2.ensures.done on2) c.start_all-came.ensures.comes c.play_script.ensures.comes)
