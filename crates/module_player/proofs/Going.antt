-- The values and events of a frame, one after another.
use Rattle.std.proofs.Common.{◌≡◌, ◌≢◌, ◌<◌, ◌≤◌, ◌+◌, ◌-◌, ◌++◌, ℕ, zero, suc, List, [], ◌∷◌, length, drop, map, get_or, Bool, true, None, refl, sym, ap, ◌∙◌, subst, arith, append_assoc, ℤ}
use Rattle.std.specs.Prelude.{slice_set, slice_get}
use Rattle.std.specs.List.{AllByRecursion}
use Rattle.cm_base.specs.declared.host.Kind.{Kind}
use Rattle.cm_base.specs.declared.host.Kind.TheVariants as kinds
use Rattle.cm_base.specs.declared.host.HostEnd.{HostEnd}
use Rattle.cm_base.specs.declared.play.Item.{Item}
use Rattle.cm_base.specs.declared.play.Script.{Script}
use Rattle.cm_base.specs.declared.play.Setting.{Setting}
use Rattle.cm_base.specs.HostEnds.{IsLawful}
use Rattle.cm_base.specs.declared.play.Saved.{Saved}
use Rattle.cm_base.specs.Parts.{Inputs, Task, Begin, Init, Send, Frame, inputs_at, settings_at, set_task, send_task, frame_tasks, frames_from, start_tasks, tasks_of, tasks_after_init}
use Rattle.cm_base.specs.Players.{Stop, AtEnd}
use Rattle.cm_base.specs.Scripts.{IsSetting, IsScriptFor}
use Rattle.cm_base.specs.Tasks.{AreInputs, IsTaken}
use Rattle.cm_base.proofs.TaskLemmas.{streams_fit, no_streams}
use Rattle.module_player.specs.declared.came.Came.{Came}
use Rattle.module_player.specs.declared.came.Came.TheVariants as came
use Rattle.module_player.specs.Cursors.{IsPlace, IsCursor, after_settings, tasks_left}
use Rattle.wasm_tree.specs.HostRun.{Instance, host_stops, zeros_of}
use Rattle.wasm_tree.specs.Instance.{first_globals, first_memory}
use Rattle.wasm_tree.specs.Section.{ends_of}
use Rattle.wasm_valid.specs.Checked.{Checked}
use Rattle.module_player.specs.declared.run.Cursor.{Cursor}
use Rattle.module_player.specs.Coming.{Comes, ComesThrough, ComesSpent, ComesTrapped, ComesHalted, frame_list}
use Rattle.module_player.specs.Given.{inputs_from}
use Rattle.module_player.specs.Playing.{Playing, IsSame, IsPlayed, goes, ComesTo, ComesOf}
use Rattle.module_player.proofs.Chains.{goes_nowhere, comes_none, comes_both, comes_early, comes_from, comes_set, same_none, same_both}
use Rattle.module_player.proofs.Places.{AreBehind, behind_place, behind_next, next_at, none_at_other, none_at_end, place_at_other, place_at_end, first_of_rest, one_of_all}

-- ---- what a script gives

pub setting_taken : (kind : Kind) (frames : ℕ) (ends : List HostEnd) (settings : List Setting) (at : ℕ) (setting : Setting) → at < length settings → setting ≡ get_or settings at setting → AllByRecursion (IsSetting kind frames ends) settings →
    IsTaken kind ends setting.endpoint setting.value
setting_taken kind frames ends settings at setting l e all =
    let one = one_of_all (IsSetting kind frames ends) settings at setting l e all in
    record { end = one.end; found = one.found; takes = one.takes }

pub frame_inputs : (ends : List HostEnd) (script : Script) (frame : ℕ) → IsLawful ends → IsScriptFor ends script → AreInputs ends (inputs_at ends script.streams frame)
frame_inputs ends script frame lawful is = streams_fit ends script.frames frame script.streams lawful.each is.streams

-- ---- values

abbrev with_current : Playing → List (List ℤ) → Playing
with_current p current = record p { current = current }

-- as far as the loop over the values has come
pub record AreSet (settings : List Setting) (frame at : ℕ) (first now : Playing) : Type 0 where
  pub set : with_current now (after_settings (settings_at frame (drop at settings)) now.current) ≡ with_current first (after_settings (settings_at frame settings) first.current)
  pub behind : AreBehind settings frame at

pub set_first : (settings : List Setting) (frame place : ℕ) (p : Playing) → IsPlace settings frame place → AreSet settings frame place p p
set_first settings frame place p is = record {
  set = ap (λ here. with_current p (after_settings here p.current)) (sym (is.same frame (omega arith)));
  behind = behind_place settings frame place is;
}

pub set_next : (settings : List Setting) (frame at : ℕ) (first now next : Playing) (setting : Setting) → at < length settings → setting ≡ get_or settings at setting → setting.frame ≡ frame → AreSet settings frame at first now →
    next ≡ with_current now (slice_set now.current setting.endpoint setting.value) → AreSet settings frame (at + 1) first next
set_next settings frame at first now next setting l e f are n =
    let rest = first_of_rest settings at setting l e in
    record {
      set =
          ap (λ (p : Playing). with_current p (after_settings (settings_at frame (drop (at + 1) settings)) p.current)) n
          ∙ (ap (λ here. with_current now (after_settings here now.current)) (sym (next_at settings frame at setting rest f)) ∙ are.set);
      behind = behind_next settings frame at setting rest f are.behind;
    }

pub set_all : (settings : List Setting) (frame at : ℕ) (first now : Playing) → settings_at frame (drop at settings) ≡ [] → AreSet settings frame at first now → now ≡ with_current first (after_settings (settings_at frame settings) first.current)
set_all settings frame at first now none are = sym (ap (λ here. with_current now (after_settings here now.current)) none) ∙ are.set

-- ---- values as tasks

pub values_come : {T : Type 0} (tells : T → Item → Bool → T → Type 0) (settings : List Setting) (p : Playing) (left : List Task) (before : T) →
    ComesTo tells p (map set_task settings ++ left) left before came.Ended (with_current p (after_settings settings p.current)) before
values_come tells [] p left before = comes_none tells p left before
values_come tells (setting ∷ settings) p left before =
    let next : Playing = with_current p (slice_set p.current setting.endpoint setting.value) in
    comes_both tells p next (with_current p (after_settings (setting ∷ settings) p.current)) (map set_task (setting ∷ settings) ++ left) (map set_task settings ++ left) left before before before came.Ended came.Ended (record { of = refl; steps = refl }) refl
    (comes_set tells p setting.endpoint setting.value (map set_task settings ++ left) before) (values_come tells settings next left before)

-- ---- events

abbrev pub sends_of : List HostEnd → Script → ℕ → List Setting → List Task
sends_of ends script frame settings = map (send_task frame (inputs_at ends script.streams frame)) settings

-- as far as the loop over the events has come
pub record AreSent {T : Type 0} (tells : T → Item → Bool → T → Type 0) (ends : List HostEnd) (script : Script) (frame at : ℕ) (first now : Playing) (before after : T) : Type 0 where
  pub come : (left : List Task) → ComesTo tells first (sends_of ends script frame (settings_at frame script.events) ++ left) (sends_of ends script frame (settings_at frame (drop at script.events)) ++ left) before came.Ended now after
  pub same : IsSame first now
  pub live : now.live ≡ true
  pub behind : AreBehind script.events frame at

pub sent_first : {T : Type 0} (tells : T → Item → Bool → T → Type 0) (ends : List HostEnd) (script : Script) (frame place : ℕ) (p : Playing) (before : T) → IsPlace script.events frame place → p.live ≡ true → AreSent tells ends script frame place p p before before
sent_first tells ends script frame place p before is live = record {
  come = λ left. comes_from tells p p (sends_of ends script frame (settings_at frame (drop place script.events)) ++ left) (sends_of ends script frame (settings_at frame script.events) ++ left) (sends_of ends script frame (settings_at frame (drop place script.events)) ++ left) before before came.Ended
      (ap (λ here. sends_of ends script frame here ++ left) (sym (is.same frame (omega arith)))) (comes_none tells p (sends_of ends script frame (settings_at frame (drop place script.events)) ++ left) before);
  same = same_none p;
  live = live;
  behind = behind_place script.events frame place is;
}

-- what an event comes to, with those before it
pub sent_one : {T : Type 0} (tells : T → Item → Bool → T → Type 0) (ends : List HostEnd) (script : Script) (frame at : ℕ) (first now next : Playing) (before between after : T) (end : Came) (setting : Setting) →
    at < length script.events → setting ≡ get_or script.events at setting → setting.frame ≡ frame → AreSent tells ends script frame at first now before between →
    ComesOf tells now (Begin (Send frame setting.endpoint setting.value (inputs_at ends script.streams frame)) ∷ []) between end next after →
    (left : List Task) → ComesTo tells first (sends_of ends script frame (settings_at frame script.events) ++ left) (sends_of ends script frame (settings_at frame (drop (at + 1) script.events)) ++ left) before end next after
sent_one tells ends script frame at first now next before between after end setting l e f are comes left =
    let rest = first_of_rest script.events at setting l e in
    let later = sends_of ends script frame (settings_at frame (drop (at + 1) script.events)) ++ left in
    let here : (send_task frame (inputs_at ends script.streams frame) setting ∷ later) ≡ sends_of ends script frame (settings_at frame (drop at script.events)) ++ left = ap (λ s. sends_of ends script frame s ++ left) (sym (next_at script.events frame at setting rest f)) in
    comes_both tells first now next (sends_of ends script frame (settings_at frame script.events) ++ left) (sends_of ends script frame (settings_at frame (drop at script.events)) ++ left) later before between after came.Ended end are.same refl (are.come left)
    (comes_from tells now next (send_task frame (inputs_at ends script.streams frame) setting ∷ later) (sends_of ends script frame (settings_at frame (drop at script.events)) ++ left) later between after end here (comes later))

pub sent_next : {T : Type 0} (tells : T → Item → Bool → T → Type 0) (ends : List HostEnd) (script : Script) (frame at : ℕ) (first now next : Playing) (before between after : T) (end : Came) (setting : Setting) →
    at < length script.events → setting ≡ get_or script.events at setting → setting.frame ≡ frame → AreSent tells ends script frame at first now before between →
    ComesOf tells now (Begin (Send frame setting.endpoint setting.value (inputs_at ends script.streams frame)) ∷ []) between end next after → IsSame now next → end ≡ came.Ended → next.live ≡ true → AreSent tells ends script frame (at + 1) first next before after
sent_next tells ends script frame at first now next before between after end setting l e f are comes same ended live = record {
  come = λ left. subst (λ (c : Came). ComesTo tells first (sends_of ends script frame (settings_at frame script.events) ++ left) (sends_of ends script frame (settings_at frame (drop (at + 1) script.events)) ++ left) before c next after) ended
      (sent_one tells ends script frame at first now next before between after end setting l e f are comes left);
  same = same_both first now next are.same same;
  live = live;
  behind = behind_next script.events frame at setting (first_of_rest script.events at setting l e) f are.behind;
}

pub sent_all : {T : Type 0} (tells : T → Item → Bool → T → Type 0) (ends : List HostEnd) (script : Script) (frame at : ℕ) (first now : Playing) (before after : T) → settings_at frame (drop at script.events) ≡ [] → AreSent tells ends script frame at first now before after →
    ComesOf tells first (sends_of ends script frame (settings_at frame script.events)) before came.Ended now after
sent_all tells ends script frame at first now before after none are left =
    subst (λ here. ComesTo tells first (sends_of ends script frame (settings_at frame script.events) ++ left) (sends_of ends script frame here ++ left) before came.Ended now after) none (are.come left)

pub sent_early : {T : Type 0} (tells : T → Item → Bool → T → Type 0) (ends : List HostEnd) (script : Script) (frame at : ℕ) (first now next : Playing) (before between after : T) (end : Came) (setting : Setting) →
    at < length script.events → setting ≡ get_or script.events at setting → setting.frame ≡ frame → AreSent tells ends script frame at first now before between →
    ComesOf tells now (Begin (Send frame setting.endpoint setting.value (inputs_at ends script.streams frame)) ∷ []) between end next after → end ≢ came.Ended →
    ComesOf tells first (sends_of ends script frame (settings_at frame script.events)) before end next after
sent_early tells ends script frame at first now next before between after end setting l e f are comes not left =
    comes_early tells first next (sends_of ends script frame (settings_at frame script.events) ++ left) (sends_of ends script frame (settings_at frame (drop (at + 1) script.events)) ++ left) left before after end not
    (sent_one tells ends script frame at first now next before between after end setting l e f are comes left)

-- ---- a frame

-- the tasks of the frames that are left begin with those of the next one
pub left_begins : (ends : List HostEnd) (script : Script) (frame : ℕ) → frame < script.frames →
    tasks_left ends script frame
    ≡ map set_task (settings_at frame script.values) ++ (sends_of ends script frame (settings_at frame script.events) ++ (Begin (Frame frame (inputs_at ends script.streams frame)) ∷ tasks_left ends script (frame + 1)))
left_begins ends script frame l =
    let n : ℕ = script.frames - (frame + 1) in
    let one : script.frames - frame ≡ suc n = omega (arith, l) in
    let values = map set_task (settings_at frame script.values) in
    let sends = sends_of ends script frame (settings_at frame script.events) in
    let last = Begin (Frame frame (inputs_at ends script.streams frame)) in
    ap (frames_from ends script frame) one
    ∙ (append_assoc values (sends ++ last ∷ []) (frames_from ends script (frame + 1) n) ∙ ap (λ tasks. values ++ tasks) (append_assoc sends (last ∷ []) (frames_from ends script (frame + 1) n)))

-- its values are set and its events are delivered
pub step_begins : {T : Type 0} (tells : T → Item → Bool → T → Type 0) (ends : List HostEnd) (script : Script) (frame : ℕ) (p next q : Playing) (before after : T) (end : Came) → frame < script.frames →
    next ≡ with_current p (after_settings (settings_at frame script.values) p.current) → ComesOf tells next (sends_of ends script frame (settings_at frame script.events)) before end q after →
    ComesTo tells p (tasks_left ends script frame) (Begin (Frame frame (inputs_at ends script.streams frame)) ∷ tasks_left ends script (frame + 1)) before end q after
step_begins tells ends script frame p next q before after end l n comes =
    let values = settings_at frame script.values in
    let set : Playing = with_current p (after_settings values p.current) in
    let rest = Begin (Frame frame (inputs_at ends script.streams frame)) ∷ tasks_left ends script (frame + 1) in
    let sends = sends_of ends script frame (settings_at frame script.events) in
    comes_from tells p q (map set_task values ++ (sends ++ rest)) (tasks_left ends script frame) rest before after end (sym (left_begins ends script frame l))
    (comes_both tells p set q (map set_task values ++ (sends ++ rest)) (sends ++ rest) rest before before after came.Ended end (record { of = refl; steps = refl }) refl (values_come tells values p (sends ++ rest) before)
    (subst (λ (x : Playing). ComesTo tells x (sends ++ rest) rest before end q after) n (comes rest)))

-- a frame of interface 1 is a block of one
pub single_block : {T : Type 0} (tells : T → Item → Bool → T → Type 0) (ends : List HostEnd) (script : Script) (frame count : ℕ) (p q : Playing) (before after : T) (end : Came) → count ≡ 1 →
    ComesOf tells p (Begin (Frame frame (inputs_at ends script.streams frame)) ∷ []) before end q after →
    ComesTo tells p (frame_list frame (inputs_from ends script.streams frame count) ++ tasks_left ends script (frame + count)) (tasks_left ends script (frame + count)) before end q after
single_block tells ends script frame count p q before after end one comes =
    subst (λ n. ComesTo tells p (frame_list frame (inputs_from ends script.streams frame n) ++ tasks_left ends script (frame + n)) (tasks_left ends script (frame + n)) before end q after) (sym one) (comes (tasks_left ends script (frame + 1)))

-- ---- the frames of a script

-- as far as the loop over the frames has come
pub record ArePlayed {T : Type 0} (tells : T → Item → Bool → T → Type 0) (ends : List HostEnd) (script : Script) (cursor : Cursor) (first now : Playing) (before after : T) : Type 0 where
  pub come : ComesTo tells first (frames_from ends script 0 script.frames) (tasks_left ends script cursor.frame) before came.Ended now after
  pub same : IsSame first now
  pub live : now.live ≡ true
  pub at : IsCursor script cursor

pub played_first : {T : Type 0} (tells : T → Item → Bool → T → Type 0) (ends : List HostEnd) (script : Script) (cursor : Cursor) (p : Playing) (before : T) → cursor.frame ≡ 0 → cursor.value ≡ 0 → cursor.event ≡ 0 → IsScriptFor ends script → p.live ≡ true →
    ArePlayed tells ends script cursor p p before before
played_first tells ends script cursor p before f v e is live =
    let all : script.frames - 0 ≡ script.frames = omega arith in
    record {
      come = comes_from tells p p (tasks_left ends script cursor.frame) (frames_from ends script 0 script.frames) (tasks_left ends script cursor.frame) before before came.Ended
          (ap (tasks_left ends script) f ∙ ap (frames_from ends script 0) all) (comes_none tells p (tasks_left ends script cursor.frame) before);
      same = same_none p;
      live = live;
      at = record {
        frame = omega (arith, f);
        values = subst (λ n. IsPlace script.values cursor.frame n) (sym v) (subst (λ n. IsPlace script.values n 0) (sym f) (record { within = omega arith; rise = is.values_rise; same = λ later l. refl }));
        events = subst (λ n. IsPlace script.events cursor.frame n) (sym e) (subst (λ n. IsPlace script.events n 0) (sym f) (record { within = omega arith; rise = is.events_rise; same = λ later l. refl }));
      };
    }

-- a step, with those before it
pub played_step : {T : Type 0} (tells : T → Item → Bool → T → Type 0) (ends : List HostEnd) (script : Script) (cursor after_cursor : Cursor) (first now next : Playing) (before between after : T) (c : Came) → ArePlayed tells ends script cursor first now before between →
    ComesTo tells now (tasks_left (ends_of now.of.section) script cursor.frame) (tasks_left (ends_of now.of.section) script after_cursor.frame) between c next after → ends ≡ ends_of first.of.section →
    ComesTo tells first (frames_from ends script 0 script.frames) (tasks_left ends script after_cursor.frame) before c next after
played_step tells ends script cursor after_cursor first now next before between after c are comes e =
    let same : ends_of now.of.section ≡ ends = ap (λ (x : Checked). ends_of x.section) are.same.of ∙ sym e in
    comes_both tells first now next (frames_from ends script 0 script.frames) (tasks_left ends script cursor.frame) (tasks_left ends script after_cursor.frame) before between after came.Ended c are.same refl are.come
    (subst (λ (x : List HostEnd). ComesTo tells now (tasks_left x script cursor.frame) (tasks_left x script after_cursor.frame) between c next after) same comes)

pub played_next : {T : Type 0} (tells : T → Item → Bool → T → Type 0) (ends : List HostEnd) (script : Script) (cursor after_cursor : Cursor) (first now next : Playing) (before between after : T) (c : Came) → ArePlayed tells ends script cursor first now before between →
    ComesTo tells now (tasks_left (ends_of now.of.section) script cursor.frame) (tasks_left (ends_of now.of.section) script after_cursor.frame) between c next after → ends ≡ ends_of first.of.section → IsSame now next → c ≡ came.Ended → next.live ≡ true → IsCursor script after_cursor →
    ArePlayed tells ends script after_cursor first next before after
played_next tells ends script cursor after_cursor first now next before between after c are comes e same ended live at = record {
  come = subst (λ (x : Came). ComesTo tells first (frames_from ends script 0 script.frames) (tasks_left ends script after_cursor.frame) before x next after) ended (played_step tells ends script cursor after_cursor first now next before between after c are comes e);
  same = same_both first now next are.same same;
  live = live;
  at = at;
}

pub played_early : {T : Type 0} (tells : T → Item → Bool → T → Type 0) (ends : List HostEnd) (script : Script) (cursor after_cursor : Cursor) (first now next : Playing) (before between after : T) (c : Came) → ArePlayed tells ends script cursor first now before between →
    ComesTo tells now (tasks_left (ends_of now.of.section) script cursor.frame) (tasks_left (ends_of now.of.section) script after_cursor.frame) between c next after → ends ≡ ends_of first.of.section → c ≢ came.Ended →
    ComesTo tells first (frames_from ends script 0 script.frames) [] before c next after
played_early tells ends script cursor after_cursor first now next before between after c are comes e not =
    comes_early tells first next (frames_from ends script 0 script.frames) (tasks_left ends script after_cursor.frame) [] before after c not (played_step tells ends script cursor after_cursor first now next before between after c are comes e)

pub played_all : {T : Type 0} (tells : T → Item → Bool → T → Type 0) (ends : List HostEnd) (script : Script) (cursor : Cursor) (first now : Playing) (before after : T) → script.frames ≤ cursor.frame → ArePlayed tells ends script cursor first now before after →
    ComesTo tells first (frames_from ends script 0 script.frames) [] before came.Ended now after
played_all tells ends script cursor first now before after l are =
    let none : script.frames - cursor.frame ≡ 0 = omega (arith, l) in
    subst (λ n. ComesTo tells first (frames_from ends script 0 script.frames) (frames_from ends script cursor.frame n) before came.Ended now after) none are.come

-- ---- a whole run

abbrev ends_in_play : Playing → List HostEnd
ends_in_play p = ends_of p.of.section

same_ends : (p q : Playing) → IsSame p q → ends_in_play q ≡ ends_in_play p
same_ends p q same = ap (λ (x : Checked). ends_of x.section) same.of

-- the inits, and then the rest
pub whole_from_init : {T : Type 0} (tells : T → Item → Bool → T → Type 0) (script : Script) (saved : List Saved) (p q r : Playing) (before between after : T) (first c : Came) → IsSame p q → first ≡ came.Ended → ComesOf tells p (Begin Init ∷ []) before first q between →
    ComesTo tells q (tasks_after_init (ends_in_play q) saved script script.frames) [] between c r after → ComesTo tells p (tasks_of (ends_in_play p) saved script script.frames) [] before c r after
whole_from_init tells script saved p q r before between after first c same ended one two =
    let rest = tasks_after_init (ends_in_play p) saved script script.frames in
    comes_both tells p q r (Begin Init ∷ rest) rest [] before between after first c same ended (one rest)
    (subst (λ (x : List HostEnd). ComesTo tells q (tasks_after_init x saved script script.frames) [] between c r after) (same_ends p q same) two)

-- the starting values, and then the frames
pub whole_from_start : {T : Type 0} (tells : T → Item → Bool → T → Type 0) (script : Script) (saved : List Saved) (p q r : Playing) (before between after : T) (first c : Came) → IsSame p q → first ≡ came.Ended →
    ComesOf tells p (start_tasks (ends_in_play p) 0 saved (inputs_at (ends_in_play p) [] 0)) before first q between → ComesTo tells q (frames_from (ends_in_play q) script 0 script.frames) [] between c r after →
    ComesTo tells p (tasks_after_init (ends_in_play p) saved script script.frames) [] before c r after
whole_from_start tells script saved p q r before between after first c same ended one two =
    let starts = start_tasks (ends_in_play p) 0 saved (inputs_at (ends_in_play p) [] 0) in
    let frames = frames_from (ends_in_play p) script 0 script.frames in
    comes_both tells p q r (starts ++ frames) frames [] before between after first c same ended (one frames)
    (subst (λ (x : List HostEnd). ComesTo tells q (frames_from x script 0 script.frames) [] between c r after) (same_ends p q same) two)

-- a part that doesn't end, and tasks after it
pub whole_early : {T : Type 0} (tells : T → Item → Bool → T → Type 0) (p q : Playing) (tasks rest : List Task) (before after : T) (c : Came) → c ≢ came.Ended → ComesOf tells p tasks before c q after → ComesTo tells p (tasks ++ rest) [] before c q after
whole_early tells p q tasks rest before after c not one = comes_early tells p q (tasks ++ rest) rest [] before after c not (one rest)

-- a run up to its last task
pub to_end : {T : Type 0} (tells : T → Item → Bool → T → Type 0) (trace : List Item) (p : Playing) (stop : Stop Instance) (before : T) (c : Came) (globals memory : List ℕ) (current : List (List ℤ)) (after : T) → Comes tells trace (goes p []) stop before c globals memory current after →
    Comes tells trace AtEnd stop before c globals memory current after
to_end tells trace p stop before _ _ _ _ _ (ComesThrough items globals memory current after all is) =
    ComesThrough items globals memory current after all (is ∙ goes_nowhere p (record { globals = globals; memory = memory; current = current; block = None; trace = trace ++ items }))
to_end tells trace p stop before _ _ _ _ _ (ComesSpent items globals memory current after part world at all is told place) = ComesSpent items globals memory current after part world at all is told place
to_end tells trace p stop before _ _ _ _ _ (ComesTrapped items globals memory current after part world at all is told place) = ComesTrapped items globals memory current after part world at all is told place
to_end tells trace p stop before _ _ _ _ _ (ComesHalted items globals memory current after is all) = ComesHalted items globals memory current after is all

pub run_played : {T : Type 0} (tells : T → Item → Bool → T → Type 0) (of : Checked) (saved : List Saved) (script : Script) (steps : ℕ) (p q : Playing) (before after : T) (c : Came) →
    p ≡ record { of = of; steps = steps; globals = first_globals of.of; memory = first_memory of.of; live = true; current = zeros_of (ends_of of.section) } →
    ComesTo tells p (tasks_of (ends_in_play p) saved script script.frames) [] before c q after → IsPlayed tells of saved script steps before c after
run_played tells of saved script steps p q before after c e comes =
    let first : Playing = record { of = of; steps = steps; globals = first_globals of.of; memory = first_memory of.of; live = true; current = zeros_of (ends_of of.section) } in
    let here = subst (λ (x : Playing). ComesTo tells x (tasks_of (ends_in_play x) saved script script.frames) [] before c q after) e comes in
    record {
      globals = q.globals;
      memory = q.memory;
      current = q.current;
      comes = to_end tells [] first (host_stops of.of of.section saved script script.frames steps) before c q.globals q.memory q.current after (here []);
    }
