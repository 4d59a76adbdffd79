-- Event by event.
use Rattle.std.proofs.Common.{◌≡◌, ◌≢◌, ◌<◌, ◌≤◌, ◌+◌, ℕ, List, [], ◌∷◌, drop, length, get_or, refl, sym, ap, ◌∙◌, subst, arith, rules, true, false, ℤ}
use Rattle.cm_base.specs.declared.host.Kind.TheVariants as kinds
use Rattle.cm_base.specs.declared.play.Setting.{Setting}
use Rattle.cm_base.specs.Parts.{Begin, Send, inputs_at}
use Rattle.cm_base.specs.Tasks.{IsTaken}
use Rattle.wasm_tree.specs.Section.{ends_of}
use Rattle.wasm_valid.specs.Checked.{Checked}
use Rattle.module_player.specs.declared.run.Cursor.{Cursor}
use Rattle.cm_base.specs.Tasks.{AreInputs}
use Rattle.module_player.specs.Cursors.{IsPlace}
use Rattle.module_player.specs.Playing.{Playing, ComesOf}
use Rattle.module_player.proofs.Chains.{same_both}
use Rattle.module_player.proofs.Going.{AreSent, sent_first, sent_next, sent_all, sent_early, setting_taken, frame_inputs}
use Rattle.module_player.proofs.Places.{first_of_rest, none_at_other, none_at_end, place_at_other, place_at_end}
use Rattle.module_player.proofs.run.send_events.Goals as goal

pub loop-at-init : goal.loop-at-init
loop-at-init g c = (sent_first {T = g.row.T.Denot} g.T.Teller.tells (ends_of c.args.player.now.of.section) c.args.script.now c.args.cursor.now.frame c.args.cursor.now.event c.args.player.now c.args.teller.now c.requires.place c.requires.live, refl)

pub returns-then-event-frame-clause-comes : goal.returns-then-event-frame-clause-comes
returns-then-event-frame-clause-comes g c =
    let read = c.index-events-at.is ∙ ap (λ (xs : List Setting). get_or xs c.loop-at.at c.index-events-at.result) c.as_slice-events.ensures in
    let l : c.loop-at.at < length c.args.script.now.events = omega (arith, ap length c.as_slice-events.ensures) in
    let rest = first_of_rest c.args.script.now.events c.loop-at.at c.index-events-at.result l read in
    let other : c.index-events-at.result.frame ≢ c.args.cursor.now.frame = search rules in
    sent_all {T = g.row.T.Denot} g.T.Teller.tells (ends_of c.args.player.now.of.section) c.args.script.now c.args.cursor.now.frame c.loop-at.at c.args.player.now c.loop-at.player c.args.teller.now c.loop-at.teller
    (none_at_other c.args.script.now.events c.args.cursor.now.frame c.loop-at.at c.index-events-at.result rest other c.loop-at.invariant.0.behind) c.loop-at.invariant.0

pub returns-then-event-frame-clause-same : goal.returns-then-event-frame-clause-same
returns-then-event-frame-clause-same g c = c.loop-at.invariant.0.same

pub returns-then-event-frame-clause-live : goal.returns-then-event-frame-clause-live
returns-then-event-frame-clause-live g c = λ _. c.loop-at.invariant.0.live

pub returns-then-event-frame-clause-frame : goal.returns-then-event-frame-clause-frame
returns-then-event-frame-clause-frame g c = ap (λ (x : Cursor). x.frame) c.loop-at.invariant.1

pub returns-then-event-frame-clause-value : goal.returns-then-event-frame-clause-value
returns-then-event-frame-clause-value g c = ap (λ (x : Cursor). x.value) c.loop-at.invariant.1

pub returns-then-event-frame-clause-place : goal.returns-then-event-frame-clause-place
returns-then-event-frame-clause-place g c = λ _.
    let read = c.index-events-at.is ∙ ap (λ (xs : List Setting). get_or xs c.loop-at.at c.index-events-at.result) c.as_slice-events.ensures in
    let l : c.loop-at.at < length c.args.script.now.events = omega (arith, ap length c.as_slice-events.ensures) in
    let rest = first_of_rest c.args.script.now.events c.loop-at.at c.index-events-at.result l read in
    let other : c.index-events-at.result.frame ≢ c.args.cursor.now.frame = search rules in
    place_at_other c.args.script.now.events c.args.cursor.now.frame c.loop-at.at c.index-events-at.result (omega (arith, l)) rest other c.loop-at.invariant.0.behind

pub send-came-requires-clause-taken : goal.send-came-requires-clause-taken
send-came-requires-clause-taken g c =
    let ends = ends_of c.args.player.now.of.section in
    let read = c.index-events-at.is ∙ ap (λ (xs : List Setting). get_or xs c.loop-at.at c.index-events-at.result) c.as_slice-events.ensures in
    let l : c.loop-at.at < length c.args.script.now.events = omega (arith, ap length c.as_slice-events.ensures) in
    subst (λ (x : Checked). IsTaken kinds.Event (ends_of x.section) c.index-events-at.result.endpoint c.index-events-at.result.value) (sym c.loop-at.invariant.0.same.of)
    (setting_taken kinds.Event c.args.script.now.frames ends c.args.script.now.events c.loop-at.at c.index-events-at.result l read c.requires.script.events)

pub send-came-requires-clause-inputs : goal.send-came-requires-clause-inputs
send-came-requires-clause-inputs g c =
    let ends = ends_of c.args.player.now.of.section in
    subst (λ (x : Checked). AreInputs (ends_of x.section) (inputs_at (ends_of x.section) c.as_slice.result.now c.args.cursor.now.frame)) (sym c.loop-at.invariant.0.same.of)
    (subst (λ (s : List (List ℤ)). AreInputs ends (inputs_at ends s c.args.cursor.now.frame)) (sym c.as_slice.ensures) (frame_inputs ends c.args.script.now c.args.cursor.now.frame c.requires.lawful c.requires.script))

pub returns-then-not-has_ended-clause-comes : goal.returns-then-not-has_ended-clause-comes
returns-then-not-has_ended-clause-comes g c =
    let ends = ends_of c.args.player.now.of.section in
    let read = c.index-events-at.is ∙ ap (λ (xs : List Setting). get_or xs c.loop-at.at c.index-events-at.result) c.as_slice-events.ensures in
    let l : c.loop-at.at < length c.args.script.now.events = omega (arith, ap length c.as_slice-events.ensures) in
    let here : c.index-events-at.result.frame ≡ c.args.cursor.now.frame = search rules in
    let streams = subst (λ (s : List (List ℤ)). ComesOf {Teller = g.row.T.Denot} g.T.Teller.tells c.loop-at.player (Begin (Send c.args.cursor.now.frame c.index-events-at.result.endpoint c.index-events-at.result.value (inputs_at (ends_of c.loop-at.player.of.section) s c.args.cursor.now.frame)) ∷ []) c.loop-at.teller c.send-came.result c.send-came.new.self c.send-came.new.teller) c.as_slice.ensures c.send-came.ensures.comes in
    let comes = subst (λ (x : Checked). ComesOf {Teller = g.row.T.Denot} g.T.Teller.tells c.loop-at.player (Begin (Send c.args.cursor.now.frame c.index-events-at.result.endpoint c.index-events-at.result.value (inputs_at (ends_of x.section) c.args.script.now.streams c.args.cursor.now.frame)) ∷ []) c.loop-at.teller c.send-came.result c.send-came.new.self c.send-came.new.teller) c.loop-at.invariant.0.same.of streams in
    let off : c.has_ended.result ≡ false = search rules in
    sent_early {T = g.row.T.Denot} g.T.Teller.tells ends c.args.script.now c.args.cursor.now.frame c.loop-at.at c.args.player.now c.loop-at.player c.send-came.new.self c.args.teller.now c.loop-at.teller c.send-came.new.teller c.send-came.result c.index-events-at.result
    l read here c.loop-at.invariant.0 comes (c.has_ended.ensures.other off)

pub returns-then-not-has_ended-clause-same : goal.returns-then-not-has_ended-clause-same
returns-then-not-has_ended-clause-same g c = same_both c.args.player.now c.loop-at.player c.send-came.new.self c.loop-at.invariant.0.same c.send-came.ensures.same

pub loop-at-preserved : goal.loop-at-preserved
loop-at-preserved g c =
    let ends = ends_of c.args.player.now.of.section in
    let read = c.index-events-at.is ∙ ap (λ (xs : List Setting). get_or xs c.loop-at.at c.index-events-at.result) c.as_slice-events.ensures in
    let l : c.loop-at.at < length c.args.script.now.events = omega (arith, ap length c.as_slice-events.ensures) in
    let here : c.index-events-at.result.frame ≡ c.args.cursor.now.frame = search rules in
    let streams = subst (λ (s : List (List ℤ)). ComesOf {Teller = g.row.T.Denot} g.T.Teller.tells c.loop-at.player (Begin (Send c.args.cursor.now.frame c.index-events-at.result.endpoint c.index-events-at.result.value (inputs_at (ends_of c.loop-at.player.of.section) s c.args.cursor.now.frame)) ∷ []) c.loop-at.teller c.send-came.result c.send-came.new.self c.send-came.new.teller) c.as_slice.ensures c.send-came.ensures.comes in
    let comes = subst (λ (x : Checked). ComesOf {Teller = g.row.T.Denot} g.T.Teller.tells c.loop-at.player (Begin (Send c.args.cursor.now.frame c.index-events-at.result.endpoint c.index-events-at.result.value (inputs_at (ends_of x.section) c.args.script.now.streams c.args.cursor.now.frame)) ∷ []) c.loop-at.teller c.send-came.result c.send-came.new.self c.send-came.new.teller) c.loop-at.invariant.0.same.of streams in
    let on : c.has_ended.result ≡ true = search rules in
    let ended = c.has_ended.ensures.done on in (
      sent_next {T = g.row.T.Denot} g.T.Teller.tells ends c.args.script.now c.args.cursor.now.frame c.loop-at.at c.args.player.now c.loop-at.player c.send-came.new.self c.args.teller.now c.loop-at.teller c.send-came.new.teller c.send-came.result c.index-events-at.result
          l read here c.loop-at.invariant.0 comes c.send-came.ensures.same ended (c.send-came.ensures.live ended),
      c.loop-at.invariant.1,
    )

pub returns-clause-comes : goal.returns-clause-comes
returns-clause-comes g c =
    let l : length c.args.script.now.events ≤ c.loop-at.at = omega (arith, ap length c.as_slice-events.ensures) in
    sent_all {T = g.row.T.Denot} g.T.Teller.tells (ends_of c.args.player.now.of.section) c.args.script.now c.args.cursor.now.frame c.loop-at.at c.args.player.now c.loop-at.player c.args.teller.now c.loop-at.teller
    (none_at_end c.args.script.now.events c.args.cursor.now.frame c.loop-at.at l) c.loop-at.invariant.0

pub returns-clause-same : goal.returns-clause-same
returns-clause-same g c = c.loop-at.invariant.0.same

pub returns-clause-live : goal.returns-clause-live
returns-clause-live g c = λ _. c.loop-at.invariant.0.live

pub returns-clause-frame : goal.returns-clause-frame
returns-clause-frame g c = ap (λ (x : Cursor). x.frame) c.loop-at.invariant.1

pub returns-clause-value : goal.returns-clause-value
returns-clause-value g c = ap (λ (x : Cursor). x.value) c.loop-at.invariant.1

pub returns-clause-place : goal.returns-clause-place
returns-clause-place g c = λ _.
    let l : length c.args.script.now.events ≤ c.loop-at.at = omega (arith, ap length c.as_slice-events.ensures) in
    subst (λ n. IsPlace c.args.script.now.events (c.args.cursor.now.frame + 1) n) (sym (ap length c.as_slice-events.ensures)) (place_at_end c.args.script.now.events c.args.cursor.now.frame c.loop-at.at l c.loop-at.invariant.0.behind)
