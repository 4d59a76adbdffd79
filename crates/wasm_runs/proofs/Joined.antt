-- The tasks of two scripts joined are those of the first, and then those of the second so many frames later.
use Rattle.std.proofs.Common.{◌≡◌, ◌≢◌, ℕ, zero, suc, ◌+◌, ◌*◌, ◌≤◌, ◌<◌, List, [], ◌∷◌, ◌++◌, length, take, drop, replicate, map, Bool, true, false, refl, sym, ap, ◌∙◌, subst, append_assoc, append-nil, ℤ, pos, arith, zero-add, inl, inr}
use Rattle.std.specs.Prelude.{◌==◌, if◌then◌else◌}
use Rattle.std.specs.List.{AllByRecursion}
use Rattle.std.proofs.lemmas.Bool.{eq-eqb}
use Rattle.std.proofs.lemmas.Bool.Decides.{eqb_tells}
use Rattle.std.proofs.lemmas.List.{length-append, length-replicate, length-take-le, length-drop, drop-append-le, take-append-le, map-append}
use Rattle.std.proofs.lemmas.List.Elements.{filter-append}
use Rattle.std.proofs.Math.Seq.{drop-append-add}
use Rattle.std.proofs.Math.Nat.{add-mul, mul-le-mul_right, suc-mul}
use Rattle.cm_base.specs.declared.host.HostEnd.{HostEnd}
use Rattle.cm_base.specs.declared.host.Kind.{Kind}
use Rattle.cm_base.specs.declared.host.Kind.TheVariants as kinds
use Rattle.cm_base.specs.declared.play.Saved.{Saved}
use Rattle.cm_base.specs.declared.play.Setting.{Setting}
use Rattle.cm_base.specs.declared.play.Script.{Script}
use Rattle.cm_base.specs.Scripts.{IsScriptFor, IsSetting}
use Rattle.cm_base.specs.Parts.{Inputs, Part, Init, Send, Frame, Task, Set, Begin, first_of, given_at, input_of, inputs_at, is_stream_input, settings_at, set_task, send_task, frame_tasks, frames_from, start_tasks, tasks_of}
use Rattle.cm_base.proofs.TaskLemmas.{drop_none}
use Rattle.wasm_tree.specs.Stopped.{joined_scripts, joined_streams, later_setting}

-- ---- later tasks

-- the same so many frames later
abbrev pub later_part : ℕ → Part → Part
later_part frames Init = Init
later_part frames (Send frame endpoint value inputs) = Send (frames + frame) endpoint value inputs
later_part frames (Frame frame inputs) = Frame (frames + frame) inputs

abbrev pub later_task : ℕ → Task → Task
later_task frames (Set endpoint value) = Set endpoint value
later_task frames (Begin part) = Begin (later_part frames part)

-- ---- streams

-- enough is as good as more
enough_zeros : (n c d : ℕ) (given : List ℤ) → n ≤ c → n ≤ d → take n (given ++ replicate c (pos 0)) ≡ take n (given ++ replicate d (pos 0))
enough_zeros zero c d given first second = refl
enough_zeros (suc n) zero d [] first second = absurd (omega (arith, first))
enough_zeros (suc n) (suc c) zero [] first second = absurd (omega (arith, second))
enough_zeros (suc n) (suc c) (suc d) [] first second = ap (λ l. pos 0 ∷ l) (enough_zeros n c d [] (omega (arith, first)) (omega (arith, second)))
enough_zeros (suc n) c d (x ∷ given) first second = ap (λ l. x ∷ l) (enough_zeros n c d given (omega (arith, first)) (omega (arith, second)))

padded_at : (place n c : ℕ) (given : List ℤ) → place + n ≤ c → take n (drop place (given ++ replicate c (pos 0))) ≡ take n (drop place given ++ replicate n (pos 0))
padded_at zero n c given few = enough_zeros n c n given (omega (arith, few)) (omega arith)
padded_at (suc place) n zero [] few = absurd (omega (arith, few))
padded_at (suc place) n (suc c) [] few =
    padded_at place n c [] (omega (arith, few)) ∙ ap (λ l. take n (l ++ replicate n (pos 0))) (drop_none place)
padded_at (suc place) n c (x ∷ given) few = padded_at place n c given (omega (arith, few))

-- within a first part
first_part : {X : Type 0} (place n c : ℕ) (all : List X) → place + n ≤ c → take n (drop place (take c all)) ≡ take n (drop place all)
first_part zero zero c all few = refl
first_part zero (suc n) zero all few = absurd (omega (arith, few))
first_part zero (suc n) (suc c) [] few = refl
first_part zero (suc n) (suc c) (x ∷ all) few = ap (λ l. x ∷ l) (first_part zero n c all (omega (arith, few)))
first_part (suc place) n zero all few = absurd (omega (arith, few))
first_part (suc place) n (suc c) [] few = refl
first_part (suc place) n (suc c) (x ∷ all) few = first_part place n c all (omega (arith, few))

before_seam : {X : Type 0} (place n : ℕ) (xs ys zs : List X) → place + n ≤ length xs → take n (drop place (xs ++ ys) ++ zs) ≡ take n (drop place xs)
before_seam place n xs ys zs few =
    let size : length (drop place xs) + place ≡ length xs = omega (arith, length-drop place xs, few) in
    ap (λ l. take n (l ++ zs)) (drop-append-le place xs ys (omega (arith, few)))
    ∙ (ap (take n) (append_assoc (drop place xs) ys zs) ∙ take-append-le n (drop place xs) (ys ++ zs) (omega (arith, size, few)))

padded_length : (c : ℕ) (given : List ℤ) → length (given_at 0 c given) ≡ c
padded_length c given = length-take-le c (given ++ replicate c (pos 0)) (omega (arith, length-append given (replicate c (pos 0)), length-replicate c (pos 0)))

-- what a joined stream gives within the first part
given_early : (place n c : ℕ) (first second : List ℤ) → place + n ≤ c → given_at place n (given_at 0 c first ++ second) ≡ given_at place n first
given_early place n c first second few =
    before_seam place n (given_at 0 c first) second (replicate n (pos 0)) (omega (arith, few, padded_length c first))
    ∙ (first_part place n c (first ++ replicate c (pos 0)) few ∙ padded_at place n c first few)

-- and after it
given_late : (place n c : ℕ) (first second : List ℤ) → given_at (c + place) n (given_at 0 c first ++ second) ≡ given_at place n second
given_late place n c first second =
    let seam : c + place ≡ length (given_at 0 c first) + place = omega (arith, padded_length c first) in
    ap (λ l. take n (l ++ replicate n (pos 0))) (ap (λ p. drop p (given_at 0 c first ++ second)) seam ∙ drop-append-add (given_at 0 c first) second place)

-- the streams of a frame of the first, and of the second
choose_early : (stream : Bool) (place n c : ℕ) (first second : List ℤ) → place + n ≤ c →
    (if stream then given_at place n (if stream then given_at 0 c first ++ second else []) else []) ≡ (if stream then given_at place n first else [])
choose_early true place n c first second few = given_early place n c first second few
choose_early false place n c first second few = refl

choose_late : (stream : Bool) (place n c : ℕ) (first second : List ℤ) →
    (if stream then given_at (c + place) n (if stream then given_at 0 c first ++ second else []) else []) ≡ (if stream then given_at place n second else [])
choose_late true place n c first second = given_late place n c first second
choose_late false place n c first second = refl

-- a frame of the first script
pub inputs_early : (ends : List HostEnd) (frames frame : ℕ) (first second : List (List ℤ)) → frame < frames → inputs_at ends (joined_streams ends frames first second) frame ≡ inputs_at ends first frame
inputs_early [] frames frame first second few = refl
inputs_early (end ∷ ends) frames frame first second few =
    let size = length end.shape in
    let within : frame * size + size ≤ frames * size = subst (λ n. n ≤ frames * size) (suc-mul frame size) (mul-le-mul_right size (let h : suc frame ≤ frames = omega (arith, few) in h)) in
    ap (λ l. l ∷ inputs_at ends (joined_streams ends frames (drop 1 first) (drop 1 second)) frame) (choose_early (is_stream_input end) (frame * size) size (frames * size) (first_of first) (first_of second) within)
    ∙ ap (λ l. input_of end (first_of first) frame ∷ l) (inputs_early ends frames frame (drop 1 first) (drop 1 second) few)

-- a frame of the second
pub inputs_late : (ends : List HostEnd) (frames frame : ℕ) (first second : List (List ℤ)) → inputs_at ends (joined_streams ends frames first second) (frames + frame) ≡ inputs_at ends second frame
inputs_late [] frames frame first second = refl
inputs_late (end ∷ ends) frames frame first second =
    let size = length end.shape in
    ap (λ place. (if is_stream_input end then given_at place size (if is_stream_input end then given_at 0 (frames * size) (first_of first) ++ first_of second else []) else [])
    ∷ inputs_at ends (joined_streams ends frames (drop 1 first) (drop 1 second)) (frames + frame)) (add-mul frames frame size)
    ∙ (ap (λ l. l ∷ inputs_at ends (joined_streams ends frames (drop 1 first) (drop 1 second)) (frames + frame)) (choose_late (is_stream_input end) (frame * size) size (frames * size) (first_of first) (first_of second))
    ∙ ap (λ l. input_of end (first_of second) frame ∷ l) (inputs_late ends frames frame (drop 1 first) (drop 1 second)))

-- ---- settings

apart : (a b : ℕ) → a ≢ b → (a == b) ≡ false
apart a b ne = elim (eqb_tells a b) [ inl same ↦ absurd (ne same.1) | inr is ↦ is.0 ]

drop_if : {X : Type 0} (keep : Bool) (x : X) (kept : List X) → keep ≡ false → (if keep then x ∷ kept else kept) ≡ kept
drop_if keep x kept off = ap (λ b. if b then x ∷ kept else kept) off

-- the second script sets nothing in the first one's frames
later_not_yet : (frames frame : ℕ) (settings : List Setting) → frame < frames → settings_at frame (map (later_setting frames) settings) ≡ []
later_not_yet frames frame [] few = refl
later_not_yet frames frame (setting ∷ settings) few =
    drop_if (frames + setting.frame == frame) (later_setting frames setting) (settings_at frame (map (later_setting frames) settings)) (apart (frames + setting.frame) frame (λ e. absurd (omega (arith, e, few))))
    ∙ later_not_yet frames frame settings few

-- nor the first one in the second's
no_more_settings : (kind : Kind) (ends : List HostEnd) (frames frame : ℕ) (settings : List Setting) → AllByRecursion (IsSetting kind frames ends) settings → settings_at (frames + frame) settings ≡ []
no_more_settings kind ends frames frame [] all = refl
no_more_settings kind ends frames frame (setting ∷ settings) all =
    drop_if (setting.frame == frames + frame) setting (settings_at (frames + frame) settings) (apart setting.frame (frames + frame) (λ e. absurd (omega (arith, e, all.0.frame))))
    ∙ no_more_settings kind ends frames frame settings all.1

same_test : (frames a b : ℕ) → (frames + a == frames + b) ≡ (a == b)
same_test frames a b =
    elim (eqb_tells a b) [
      | inl same ↦ eq-eqb (frames + a) (frames + b) (ap (λ n. frames + n) same.1) ∙ sym same.0
      | inr is ↦ apart (frames + a) (frames + b) (λ e. is.1 (omega (arith, e))) ∙ sym is.0
    ]

move_if : (keep : Bool) (frames : ℕ) (setting : Setting) (kept : List Setting) →
    (if keep then later_setting frames setting ∷ map (later_setting frames) kept else map (later_setting frames) kept) ≡ map (later_setting frames) (if keep then setting ∷ kept else kept)
move_if true frames setting kept = refl
move_if false frames setting kept = refl

later_settings : (frames frame : ℕ) (settings : List Setting) → settings_at (frames + frame) (map (later_setting frames) settings) ≡ map (later_setting frames) (settings_at frame settings)
later_settings frames frame [] = refl
later_settings frames frame (setting ∷ settings) =
    ap (λ keep. if keep then later_setting frames setting ∷ settings_at (frames + frame) (map (later_setting frames) settings) else settings_at (frames + frame) (map (later_setting frames) settings))
    (same_test frames setting.frame frame)
    ∙ (ap (λ kept. if setting.frame == frame then later_setting frames setting ∷ kept else kept) (later_settings frames frame settings)
    ∙ move_if (setting.frame == frame) frames setting (settings_at frame settings))

settings_early : (frames frame : ℕ) (first second : List Setting) → frame < frames → settings_at frame (first ++ map (later_setting frames) second) ≡ settings_at frame first
settings_early frames frame first second few =
    filter-append (λ setting. setting.frame == frame) first (map (later_setting frames) second)
    ∙ (ap (λ l. settings_at frame first ++ l) (later_not_yet frames frame second few) ∙ append-nil (settings_at frame first))

settings_late : (kind : Kind) (ends : List HostEnd) (frames frame : ℕ) (first second : List Setting) → AllByRecursion (IsSetting kind frames ends) first →
    settings_at (frames + frame) (first ++ map (later_setting frames) second) ≡ map (later_setting frames) (settings_at frame second)
settings_late kind ends frames frame first second all =
    filter-append (λ setting. setting.frame == frames + frame) first (map (later_setting frames) second)
    ∙ (ap (λ l. l ++ settings_at (frames + frame) (map (later_setting frames) second)) (no_more_settings kind ends frames frame first all) ∙ later_settings frames frame second)

-- ---- frames

abbrev tasks_with : ℕ → List Setting → List Setting → Inputs → List Task
tasks_with frame values events inputs = map set_task values ++ (map (send_task frame inputs) events ++ Begin (Frame frame inputs) ∷ [])

same_tasks : (frame : ℕ) (values values' events events' : List Setting) (inputs inputs' : Inputs) → values ≡ values' → events ≡ events' → inputs ≡ inputs' → tasks_with frame values events inputs ≡ tasks_with frame values' events' inputs'
same_tasks frame values values' events events' inputs inputs' first second third =
    ap (λ l. tasks_with frame l events inputs) first ∙ (ap (λ l. tasks_with frame values' l inputs) second ∙ ap (tasks_with frame values' events') third)

sets_later : (frames : ℕ) (values : List Setting) → map set_task (map (later_setting frames) values) ≡ map (later_task frames) (map set_task values)
sets_later frames [] = refl
sets_later frames (setting ∷ values) = ap (λ l. set_task setting ∷ l) (sets_later frames values)

sends_later : (frames frame : ℕ) (inputs : Inputs) (events : List Setting) → map (send_task (frames + frame) inputs) (map (later_setting frames) events) ≡ map (later_task frames) (map (send_task frame inputs) events)
sends_later frames frame inputs [] = refl
sends_later frames frame inputs (setting ∷ events) = ap (λ l. send_task (frames + frame) inputs setting ∷ l) (sends_later frames frame inputs events)

tasks_later : (frames frame : ℕ) (values events : List Setting) (inputs : Inputs) →
    tasks_with (frames + frame) (map (later_setting frames) values) (map (later_setting frames) events) inputs ≡ map (later_task frames) (tasks_with frame values events inputs)
tasks_later frames frame values events inputs =
    let last = Begin (Frame frame inputs) ∷ [] in
    ap (λ l. l ++ (map (send_task (frames + frame) inputs) (map (later_setting frames) events) ++ map (later_task frames) last)) (sets_later frames values)
    ∙ (ap (λ l. map (later_task frames) (map set_task values) ++ (l ++ map (later_task frames) last)) (sends_later frames frame inputs events)
    ∙ (ap (λ l. map (later_task frames) (map set_task values) ++ l) (sym (map-append (later_task frames) (map (send_task frame inputs) events) last))
    ∙ sym (map-append (later_task frames) (map set_task values) (map (send_task frame inputs) events ++ last))))

frame_early : (ends : List HostEnd) (first second : Script) (frame : ℕ) → frame < first.frames → frame_tasks ends (joined_scripts ends first second) frame ≡ frame_tasks ends first frame
frame_early ends first second frame few =
    same_tasks frame _ _ _ _ _ _ (settings_early first.frames frame first.values second.values few) (settings_early first.frames frame first.events second.events few)
    (inputs_early ends first.frames frame first.streams second.streams few)

frame_late : (ends : List HostEnd) (first second : Script) (frame : ℕ) → IsScriptFor ends first → frame_tasks ends (joined_scripts ends first second) (first.frames + frame) ≡ map (later_task first.frames) (frame_tasks ends second frame)
frame_late ends first second frame is =
    same_tasks (first.frames + frame) _ _ _ _ _ _ (settings_late kinds.Value ends first.frames frame first.values second.values is.values) (settings_late kinds.Event ends first.frames frame first.events second.events is.events)
    (inputs_late ends first.frames frame first.streams second.streams)
    ∙ tasks_later first.frames frame (settings_at frame second.values) (settings_at frame second.events) (inputs_at ends second.streams frame)

frames_early : (ends : List HostEnd) (first second : Script) (frame count : ℕ) → frame + count ≤ first.frames → frames_from ends (joined_scripts ends first second) frame count ≡ frames_from ends first frame count
frames_early ends first second frame zero few = refl
frames_early ends first second frame (suc count) few =
    ap (λ l. l ++ frames_from ends (joined_scripts ends first second) (frame + 1) count) (frame_early ends first second frame (omega (arith, few)))
    ∙ ap (λ l. frame_tasks ends first frame ++ l) (frames_early ends first second (frame + 1) count (omega (arith, few)))

frames_late : (ends : List HostEnd) (first second : Script) (frame count : ℕ) → IsScriptFor ends first →
    frames_from ends (joined_scripts ends first second) (first.frames + frame) count ≡ map (later_task first.frames) (frames_from ends second frame count)
frames_late ends first second frame zero is = refl
frames_late ends first second frame (suc count) is =
    let next : (first.frames + frame) + 1 ≡ first.frames + (frame + 1) = omega arith in
    ap (λ l. l ++ frames_from ends (joined_scripts ends first second) ((first.frames + frame) + 1) count) (frame_late ends first second frame is)
    ∙ (ap (λ f. map (later_task first.frames) (frame_tasks ends second frame) ++ frames_from ends (joined_scripts ends first second) f count) next
    ∙ (ap (λ l. map (later_task first.frames) (frame_tasks ends second frame) ++ l) (frames_late ends first second (frame + 1) count is)
    ∙ sym (map-append (later_task first.frames) (frame_tasks ends second frame) (frames_from ends second (frame + 1) count))))

frames_split : (ends : List HostEnd) (script : Script) (frame a b : ℕ) → frames_from ends script frame (a + b) ≡ frames_from ends script frame a ++ frames_from ends script (frame + a) b
frames_split ends script frame zero b =
    let same : frame + 0 ≡ frame = omega arith in
    ap (frames_from ends script frame) (zero-add b) ∙ ap (λ f. frames_from ends script f b) (sym same)
frames_split ends script frame (suc a) b =
    let count : suc a + b ≡ suc (a + b) = omega arith in
    let place : (frame + 1) + a ≡ frame + suc a = omega arith in
    ap (frames_from ends script frame) count
    ∙ (ap (λ l. frame_tasks ends script frame ++ l) (frames_split ends script (frame + 1) a b ∙ ap (λ f. frames_from ends script (frame + 1) a ++ frames_from ends script f b) place)
    ∙ sym (append_assoc (frame_tasks ends script frame) (frames_from ends script (frame + 1) a) (frames_from ends script (frame + suc a) b)))

-- all frames of both
pub frames_joined : (ends : List HostEnd) (first second : Script) → IsScriptFor ends first →
    frames_from ends (joined_scripts ends first second) 0 (first.frames + second.frames) ≡ frames_from ends first 0 first.frames ++ map (later_task first.frames) (frames_from ends second 0 second.frames)
frames_joined ends first second is =
    let start : 0 + first.frames ≡ first.frames + 0 = omega arith in
    frames_split ends (joined_scripts ends first second) 0 first.frames second.frames
    ∙ (ap (λ l. l ++ frames_from ends (joined_scripts ends first second) (0 + first.frames) second.frames) (frames_early ends first second 0 first.frames (omega arith))
    ∙ (ap (λ f. frames_from ends first 0 first.frames ++ frames_from ends (joined_scripts ends first second) f second.frames) start
    ∙ ap (λ l. frames_from ends first 0 first.frames ++ l) (frames_late ends first second 0 second.frames is)))

-- the whole run
pub tasks_joined : (ends : List HostEnd) (saved : List Saved) (first second : Script) → IsScriptFor ends first →
    tasks_of ends saved (joined_scripts ends first second) (first.frames + second.frames) ≡ tasks_of ends saved first first.frames ++ map (later_task first.frames) (frames_from ends second 0 second.frames)
tasks_joined ends saved first second is =
    let starts = start_tasks ends 0 saved (inputs_at ends [] 0) in
    ap (λ l. Begin Init ∷ (starts ++ l)) (frames_joined ends first second is)
    ∙ ap (λ l. Begin Init ∷ l) (sym (append_assoc starts (frames_from ends first 0 first.frames) (map (later_task first.frames) (frames_from ends second 0 second.frames))))
