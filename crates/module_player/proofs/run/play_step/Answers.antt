-- The values, the events and then the frames.
use Rattle.std.proofs.Common.{◌≡◌, ◌+◌, List, ◌∷◌, true, false, sym, ap, ◌∙◌, subst, rules}
use Rattle.cm_base.specs.Parts.{Task, Begin, Frame, inputs_at, settings_at}
use Rattle.wasm_tree.specs.Section.{ends_of}
use Rattle.wasm_valid.specs.Checked.{Checked}
use Rattle.module_player.specs.Cursors.{tasks_left}
use Rattle.module_player.specs.Playing.{Playing, IsSame, ComesTo, ComesOf}
use Rattle.module_player.proofs.Chains.{comes_both, comes_early, same_both}
use Rattle.module_player.proofs.Going.{sends_of, step_begins}
use Rattle.module_player.proofs.run.play_step.Goals as goal

pub returns-then-not-has_ended-clause-comes : goal.returns-then-not-has_ended-clause-comes
returns-then-not-has_ended-clause-comes g c =
    let ends = ends_of c.args.player.now.of.section in
    let frame = c.args.cursor.now.frame in
    let events = subst (λ (x : Checked). ComesOf {Teller = g.row.T.Denot} g.T.Teller.tells c.set_values-cursor.new.player (sends_of (ends_of x.section) c.args.script.now frame (settings_at frame c.args.script.now.events)) c.args.teller.now c.send_events-came.result c.send_events-came.new.player c.send_events-came.new.teller) (ap (λ (p : Playing). p.of) c.set_values-cursor.ensures.set) c.send_events-came.ensures.comes in
    let begins = step_begins {T = g.row.T.Denot} g.T.Teller.tells ends c.args.script.now frame c.args.player.now c.set_values-cursor.new.player c.send_events-came.new.player c.args.teller.now c.send_events-came.new.teller c.send_events-came.result c.requires.frame c.set_values-cursor.ensures.set events in
    let off : c.has_ended.result ≡ false = search rules in
    comes_early {T = g.row.T.Denot} g.T.Teller.tells c.args.player.now c.send_events-came.new.player (tasks_left ends c.args.script.now frame) (Begin (Frame frame (inputs_at ends c.args.script.now.streams frame)) ∷ tasks_left ends c.args.script.now (frame + 1))
    (tasks_left ends c.args.script.now c.send_events-came.new.cursor.frame) c.args.teller.now c.send_events-came.new.teller c.send_events-came.result (c.has_ended.ensures.other off) begins

pub returns-clause-comes : goal.returns-clause-comes
returns-clause-comes g c =
    let ends = ends_of c.args.player.now.of.section in
    let frame = c.args.cursor.now.frame in
    let p1 : Playing = c.set_values-cursor.new.player in
    let q : Playing = c.send_events-came.new.player in
    let set : IsSame c.args.player.now p1 = record { of = ap (λ (p : Playing). p.of) c.set_values-cursor.ensures.set; steps = ap (λ (p : Playing). p.steps) c.set_values-cursor.ensures.set } in
    let same : IsSame c.args.player.now q = same_both c.args.player.now p1 q set c.send_events-came.ensures.same in
    let events = subst (λ (x : Checked). ComesOf {Teller = g.row.T.Denot} g.T.Teller.tells p1 (sends_of (ends_of x.section) c.args.script.now frame (settings_at frame c.args.script.now.events)) c.args.teller.now c.send_events-came.result q c.send_events-came.new.teller) set.of c.send_events-came.ensures.comes in
    let begins = step_begins {T = g.row.T.Denot} g.T.Teller.tells ends c.args.script.now frame c.args.player.now p1 q c.args.teller.now c.send_events-came.new.teller c.send_events-came.result c.requires.frame c.set_values-cursor.ensures.set events in
    let on : c.has_ended.result ≡ true = search rules in
    let left : Checked → List Task = λ x. tasks_left (ends_of x.section) c.args.script.now c.play_next.new.cursor.frame in
    let there = subst (λ f. ComesTo {Teller = g.row.T.Denot} g.T.Teller.tells q (Begin (Frame f (inputs_at (ends_of q.of.section) c.args.script.now.streams f)) ∷ tasks_left (ends_of q.of.section) c.args.script.now (f + 1)) (left q.of) c.send_events-came.new.teller c.play_next.result c.play_next.new.player c.play_next.new.teller) c.send_events-came.ensures.frame c.play_next.ensures.comes in
    let frames = subst (λ (x : Checked). ComesTo {Teller = g.row.T.Denot} g.T.Teller.tells q (Begin (Frame frame (inputs_at (ends_of x.section) c.args.script.now.streams frame)) ∷ tasks_left (ends_of x.section) c.args.script.now (frame + 1)) (left x) c.send_events-came.new.teller c.play_next.result c.play_next.new.player c.play_next.new.teller) same.of there in
    comes_both {T = g.row.T.Denot} g.T.Teller.tells c.args.player.now q c.play_next.new.player (tasks_left ends c.args.script.now frame) (Begin (Frame frame (inputs_at ends c.args.script.now.streams frame)) ∷ tasks_left ends c.args.script.now (frame + 1))
    (tasks_left ends c.args.script.now c.play_next.new.cursor.frame) c.args.teller.now c.send_events-came.new.teller c.play_next.new.teller c.send_events-came.result c.play_next.result same (c.has_ended.ensures.done on) begins frames
