-- Frames with nothing set or sent between.
use Rattle.std.proofs.Common.{◌≡◌, ◌≢◌, ◌<◌, ◌≤◌, ◌+◌, ◌-◌, ◌++◌, ◌⊎◌, inl, inr, ℕ, zero, suc, List, [], ◌∷◌, length, drop, take, map, min, refl, sym, ap, ◌∙◌, subst, arith, append-nil, ℤ}
use Rattle.std.proofs.lemmas.List.{take_all, take_at}
use Rattle.std.proofs.lemmas.Bool.{cases_lt}
use Rattle.cm_base.specs.declared.play.Setting.{Setting}
use Rattle.cm_base.specs.declared.play.Script.{Script}
use Rattle.cm_base.specs.declared.host.HostEnd.{HostEnd}
use Rattle.cm_base.specs.Parts.{Inputs, Part, Frame, Task, Begin, inputs_at, settings_at, set_task, send_task, frame_tasks, frames_from, following}
use Rattle.cm_base.specs.Scripts.{AreFrom}
use Rattle.module_player.specs.Coming.{frame_list}
use Rattle.module_player.specs.Given.{inputs_from}
use Rattle.module_player.specs.Cursors.{IsPlace, IsBlock, tasks_left, next_of}
use Rattle.module_player.proofs.Places.{nothing_between, something_at, later_place}

-- ---- one frame

abbrev frame_task : List HostEnd → Script → ℕ → Task
frame_task ends script frame = Begin (Frame frame (inputs_at ends script.streams frame))

abbrev send_tasks : List HostEnd → Script → ℕ → List Setting → List Task
send_tasks ends script frame settings = map (send_task frame (inputs_at ends script.streams frame)) settings

-- nothing is set and nothing is sent at the frame
pub record IsQuiet (script : Script) (frame : ℕ) : Type 0 where
  pub values : settings_at frame script.values ≡ []
  pub events : settings_at frame script.events ≡ []

quiet_tasks : (ends : List HostEnd) (script : Script) (frame : ℕ) → IsQuiet script frame → frame_tasks ends script frame ≡ frame_task ends script frame ∷ []
quiet_tasks ends script frame quiet =
    ap (λ values. map set_task values ++ (send_tasks ends script frame (settings_at frame script.events) ++ frame_task ends script frame ∷ [])) quiet.values
    ∙ ap (λ events. send_tasks ends script frame events ++ frame_task ends script frame ∷ []) quiet.events

-- ---- several frames

pub quiet_frames : (ends : List HostEnd) (script : Script) (frame count more : ℕ) → ((at : ℕ) → frame ≤ at → at < frame + count → IsQuiet script at) →
    frames_from ends script frame (count + more) ≡ frame_list frame (inputs_from ends script.streams frame count) ++ frames_from ends script (frame + count) more
quiet_frames ends script frame zero more quiet =
    let none : zero + more ≡ more = omega arith in
    let here : frame ≡ frame + zero = omega arith in
    ap (frames_from ends script frame) none ∙ ap (λ f. frames_from ends script f more) here
quiet_frames ends script frame (suc count) more quiet =
    let one : suc count + more ≡ suc (count + more) = omega arith in
    let here : frame + 1 + count ≡ frame + suc count = omega arith in
    let first : IsQuiet script frame = quiet frame (omega arith) (omega arith) in
    let rest = quiet_frames ends script (frame + 1) count more (λ at l u. quiet at (omega (arith, l)) (omega (arith, u))) in
    ap (frames_from ends script frame) one
    ∙ (ap (λ tasks. tasks ++ frames_from ends script (frame + 1) (count + more)) (quiet_tasks ends script frame first)
    ∙ ap (λ tasks. frame_task ends script frame ∷ tasks) (rest ∙ ap (λ f. frame_list (frame + 1) (inputs_from ends script.streams (frame + 1) count) ++ frames_from ends script f more) here))

pub following_list : (frame : ℕ) (inputs : List Inputs) (left : List Task) → following (frame_list frame inputs ++ left) ≡ inputs ++ following left
following_list frame [] left = refl
following_list frame (one ∷ inputs) left = ap (λ l. one ∷ l) (following_list (frame + 1) inputs left)

pub inputs_many : (ends : List HostEnd) (streams : List (List ℤ)) (frame count : ℕ) → length (inputs_from ends streams frame count) ≡ count
inputs_many ends streams frame zero = refl
inputs_many ends streams frame (suc count) = ap suc (inputs_many ends streams (frame + 1) count)

-- ---- where frames with nothing between end

set_first : (ends : List HostEnd) (script : Script) (frame : ℕ) (setting : Setting) (more : List Setting) (others : List Task) → settings_at frame script.values ≡ setting ∷ more → following (frame_tasks ends script frame ++ others) ≡ []
set_first ends script frame setting more others e =
    ap (λ values. following ((map set_task values ++ (send_tasks ends script frame (settings_at frame script.events) ++ frame_task ends script frame ∷ [])) ++ others)) e

sent_by : (ends : List HostEnd) (script : Script) (frame : ℕ) (setting : Setting) (more : List Setting) (others : List Task) (values : List Setting) →
    following ((map set_task values ++ (send_tasks ends script frame (setting ∷ more) ++ frame_task ends script frame ∷ [])) ++ others) ≡ []
sent_by ends script frame setting more others [] = refl
sent_by ends script frame setting more others (value ∷ values) = refl

sent_first : (ends : List HostEnd) (script : Script) (frame : ℕ) (setting : Setting) (more : List Setting) (others : List Task) → settings_at frame script.events ≡ setting ∷ more → following (frame_tasks ends script frame ++ others) ≡ []
sent_first ends script frame setting more others e =
    ap (λ events. following ((map set_task (settings_at frame script.values) ++ (send_tasks ends script frame events ++ frame_task ends script frame ∷ [])) ++ others)) e
    ∙ sent_by ends script frame setting more others (settings_at frame script.values)

-- a frame at which something is set or sent
pub record IsLoud (script : Script) (frame : ℕ) : Type 0 where
  pub setting : Setting
  pub more : List Setting
  pub found : (settings_at frame script.values ≡ setting ∷ more) ⊎ (settings_at frame script.events ≡ setting ∷ more)

loud_follows : (ends : List HostEnd) (script : Script) (frame count : ℕ) → IsLoud script frame → following (frames_from ends script frame count) ≡ []
loud_follows ends script frame zero loud = refl
loud_follows ends script frame (suc count) loud =
    elim loud.found [
      | inl e ↦ set_first ends script frame loud.setting loud.more (frames_from ends script (frame + 1) count) e
      | inr e ↦ sent_first ends script frame loud.setting loud.more (frames_from ends script (frame + 1) count) e
    ]

-- ---- the frames of a block

-- the places of what is set or sent after a frame
pub record ArePlaces (script : Script) (frame value event : ℕ) : Type 0 where
  pub values : IsPlace script.values (frame + 1) value
  pub events : IsPlace script.events (frame + 1) event

-- where they end
abbrev pub end_of : Script → ℕ → ℕ → ℕ
end_of script value event = min script.frames (min (next_of script.frames (drop value script.values)) (next_of script.frames (drop event script.events)))

next_above : (settings : List Setting) (frame frames place : ℕ) → IsPlace settings (frame + 1) place → frame < frames → frame + 1 ≤ next_of frames (drop place settings)
next_above settings frame frames place is l = above_by (drop place settings) frame frames is.rise l
  where
    above_by : (rest : List Setting) (frame frames : ℕ) → AreFrom (frame + 1) rest → frame < frames → frame + 1 ≤ next_of frames rest
    above_by [] frame frames rise l = omega (arith, l)
    above_by (setting ∷ rest) frame frames rise l = rise.0

between_quiet : (script : Script) (frame value event at : ℕ) → ArePlaces script frame value event → frame + 1 ≤ at → at < end_of script value event → IsQuiet script at
between_quiet script frame value event at places l u = record {
  values = nothing_between script.values (frame + 1) script.frames value at places.values l (omega (arith, u)) (omega (arith, u));
  events = nothing_between script.events (frame + 1) script.frames event at places.events l (omega (arith, u)) (omega (arith, u));
}

loud_by : (script : Script) (frame value event : ℕ) → ArePlaces script frame value event → frame < script.frames → end_of script value event < script.frames → IsLoud script (end_of script value event)
loud_by script frame value event places f l =
    let nv : ℕ = next_of script.frames (drop value script.values) in
    let ne : ℕ = next_of script.frames (drop event script.events) in
    elim (cases_lt nv (ne + 1)) [
      | inl less ↦
          (let e : end_of script value event ≡ nv = omega (arith, less, l) in
          let one = something_at script.values (frame + 1) script.frames value places.values (next_above script.values frame script.frames value places.values f) (omega (arith, e, l)) in
          record { setting = one.0; more = one.1; found = inl (ap (λ n. settings_at n script.values) e ∙ one.2) })
      | inr more ↦
          (let e : end_of script value event ≡ ne = omega (arith, more, l) in
          let one = something_at script.events (frame + 1) script.frames event places.events (next_above script.events frame script.frames event places.events f) (omega (arith, e, l)) in
          record { setting = one.0; more = one.1; found = inr (ap (λ n. settings_at n script.events) e ∙ one.2) })
    ]

end_follows : (ends : List HostEnd) (script : Script) (frame value event : ℕ) → ArePlaces script frame value event → frame < script.frames → following (tasks_left ends script (end_of script value event)) ≡ []
end_follows ends script frame value event places f =
    let end : ℕ = end_of script value event in
    elim (cases_lt end script.frames) [
      | inl less ↦ loud_follows ends script end (script.frames - end) (loud_by script frame value event places f less)
      | inr more ↦ (let none : script.frames - end ≡ 0 = omega (arith, more) in ap (λ n. following (frames_from ends script end n)) none)
    ]

pub block_is : (ends : List HostEnd) (script : Script) (block frame count value event : ℕ) → ArePlaces script frame value event → frame < script.frames → 0 < count → count ≤ block → frame + count ≡ min (frame + block) (end_of script value event) →
    IsBlock ends script block frame count
block_is ends script block frame count value event places f some few e =
    let carried = inputs_from ends script.streams frame count in
    let many : length carried ≡ count = inputs_many ends script.streams frame count in
    record {
      some = some;
      few = few;
      within = omega (arith, e);
      full =
          elim (cases_lt count block) [
            | inl less ↦
                (let at : frame + count ≡ end_of script value event = omega (arith, e, less) in
                ap (λ f. take block (carried ++ following (tasks_left ends script f))) at
                ∙ (ap (λ l. take block (carried ++ l)) (end_follows ends script frame value event places f)
                ∙ (ap (take block) (append-nil carried) ∙ take_all block carried (omega (arith, many, few)))))
            | inr more ↦ (let same : length carried ≡ block = omega (arith, many, more, few) in take_at carried (following (tasks_left ends script (frame + count))) block same)
          ];
    }

-- the tasks from the frame on, whose values are set and whose events are delivered
pub block_tasks : (ends : List HostEnd) (script : Script) (block frame count value event : ℕ) → ArePlaces script frame value event → frame < script.frames → 0 < count → frame + count ≡ min (frame + block) (end_of script value event) →
    frame_list frame (inputs_from ends script.streams frame count) ++ tasks_left ends script (frame + count) ≡ Begin (Frame frame (inputs_at ends script.streams frame)) ∷ tasks_left ends script (frame + 1)
block_tasks ends script block frame zero value event places f some e = absurd (omega (arith, some))
block_tasks ends script block frame (suc count) value event places f some e =
    let more : ℕ = script.frames - (frame + suc count) in
    let left : script.frames - (frame + 1) ≡ count + more = omega (arith, e) in
    let here : frame + 1 + count ≡ frame + suc count = omega arith in
    let quiet = quiet_frames ends script (frame + 1) count more (λ at l u. between_quiet script frame value event at places l (omega (arith, u, e))) in
    ap (λ tasks. frame_task ends script frame ∷ tasks)
    (sym (ap (frames_from ends script (frame + 1)) left ∙ (quiet ∙ ap (λ n. frame_list (frame + 1) (inputs_from ends script.streams (frame + 1) count) ++ frames_from ends script n more) here)))

-- the places after a block are those of its end
pub block_places : (script : Script) (block frame count value event : ℕ) → ArePlaces script frame value event → frame < script.frames → 0 < count → frame + count ≡ min (frame + block) (end_of script value event) →
    IsPlace script.values (frame + count) value × IsPlace script.events (frame + count) event
block_places script block frame count value event places f some e = (
  later_place script.values (frame + 1) (frame + count) value places.values (omega (arith, some)) (below_next script.values (frame + count) script.frames value (omega (arith, e))),
  later_place script.events (frame + 1) (frame + count) event places.events (omega (arith, some)) (below_next script.events (frame + count) script.frames event (omega (arith, e))),
)
  where
    below_by : (rest : List Setting) (at frames : ℕ) → at ≤ next_of frames rest → at ≤ next_of at rest
    below_by [] at frames l = omega arith
    below_by (setting ∷ rest) at frames l = l

    below_next : (settings : List Setting) (at frames place : ℕ) → at ≤ next_of frames (drop place settings) → at ≤ next_of at (drop place settings)
    below_next settings at frames place l = below_by (drop place settings) at frames l
