-- The tasks of a run hold what they are to, where its script and saved parameters belong to the endpoints.
use Rattle.std.proofs.Common.{◌≡◌, ℕ, zero, suc, ◌+◌, ◌*◌, List, [], ◌∷◌, ◌++◌, length, take, drop, replicate, map, Bool, true, false, Option, Some, None, refl, sym, ap, ◌∙◌, subst, ℤ, pos, negsuc, arith, rules, append_assoc}
use Rattle.std.specs.Prelude.{⊤, filter, slice_get, FitsSigned, ◌≤ℤ◌, if◌then◌else◌, ◌==◌}
use Rattle.std.specs.Int.{w32}
use Rattle.std.specs.List.{AllByRecursion, flat_map}
use Rattle.std.specs.Bool.{OnTrue, OnFalse}
use Rattle.std.proofs.lemmas.Int.{ints}
use Rattle.std.proofs.lemmas.List.{take_at, take_all, length-append, length-replicate}
use Rattle.std.proofs.Math.Seq.{drop-append-add}
use Rattle.std.proofs.Math.Nat.{zero-mul, suc-mul}
use Rattle.cm_base.specs.declared.host.Scalar.{Scalar}
use Rattle.cm_base.specs.declared.host.Scalar.TheVariants.{Int32, Int64, Bool as Truth, Wrap, Clamp}
use Rattle.cm_base.specs.declared.host.Flow.TheVariants.{Input}
use Rattle.cm_base.specs.declared.host.Kind.{Kind}
use Rattle.cm_base.specs.declared.host.Kind.TheVariants as kinds
use Rattle.cm_base.specs.declared.host.Range.{Range}
use Rattle.cm_base.specs.declared.host.HostEnd.{HostEnd}
use Rattle.cm_base.specs.declared.play.Saved.{Saved}
use Rattle.cm_base.specs.declared.play.Script.{Script}
use Rattle.cm_base.specs.HostEnds.{IsLawfulEnd, IsLawfulScalar, IsLawfulRange, CarriesParameter}
use Rattle.cm_base.specs.Scripts.{HasShape, IsOfKind, AreStreams, IsGiven, IsSetting, IsScriptFor, IsSavedIn, AreSaved, IsInRange}
use Rattle.cm_base.specs.Parts.{Inputs, Send, Frame, Set, Begin, given_at, inputs_at, is_stream_input, is_event, settings_at, set_task, send_task, frame_tasks, frames_from, start_of, start_tasks_of, start_tasks}
use Rattle.cm_base.specs.Tasks.{AreInputs, IsTask, TasksFit}

-- ---- lists

pub all_append : {X : Type 0} (P : X → Type 0) (xs ys : List X) → AllByRecursion P xs → AllByRecursion P ys → AllByRecursion P (xs ++ ys)
all_append P [] ys first second = second
all_append P (x ∷ xs) ys first second = (first.0, all_append P xs ys first.1 second)

-- those that are kept and mapped
filter_one : {X : Type 0} (P : X → Type 0) (keep : Bool) (x : X) (kept : List X) → P x → AllByRecursion P kept → AllByRecursion P (if keep then x ∷ kept else kept)
filter_one P true x kept first rest = (first, rest)
filter_one P false x kept first rest = rest

all_filter : {X : Type 0} (P : X → Type 0) (keep : X → Bool) (xs : List X) → AllByRecursion P xs → AllByRecursion P (filter keep xs)
all_filter P keep [] all = tt
all_filter P keep (x ∷ xs) all = filter_one P (keep x) x (filter keep xs) all.0 (all_filter P keep xs all.1)

all_map : {X Y : Type 0} (P : X → Type 0) (Q : Y → Type 0) (f : X → Y) → ((x : X) → P x → Q (f x)) → (xs : List X) → AllByRecursion P xs → AllByRecursion Q (map f xs)
all_map P Q f each [] all = tt
all_map P Q f each (x ∷ xs) all = (each x all.0, all_map P Q f each xs all.1)

-- ---- streams

zero_of_kind : (kind : Scalar) → IsLawfulScalar kind → IsOfKind kind (pos 0)
zero_of_kind Int32 lawful = search rules
zero_of_kind Int64 lawful = search rules
zero_of_kind Truth lawful = (omega (arith, ints), omega (arith, ints))
zero_of_kind (Wrap n) lawful = (omega (arith, ints), omega (arith, ints, lawful))
zero_of_kind (Clamp n) lawful = (omega (arith, ints), omega (arith, ints, lawful))

zeros_of_shape : (shape : List Scalar) → AllByRecursion IsLawfulScalar shape → HasShape shape (replicate (length shape) (pos 0))
zeros_of_shape [] lawful = tt
zeros_of_shape (kind ∷ kinds) lawful = (zero_of_kind kind lawful.0, zeros_of_shape kinds lawful.1)

-- a value has as many scalars as its shape
pub shape_length : (shape : List Scalar) (value : List ℤ) → HasShape shape value → length value ≡ length shape
shape_length [] [] has = refl
shape_length [] (z ∷ value) has = absurd has
shape_length (kind ∷ kinds) [] has = absurd has
shape_length (kind ∷ kinds) (z ∷ value) has = ap suc (shape_length kinds value has.1)

abbrev pub empty_of : (X : Type 0) → List X
empty_of X = []

pub drop_none : {X : Type 0} (n : ℕ) → drop n (empty_of X) ≡ []
drop_none zero = refl
drop_none (suc n) = refl

-- where nothing is given there are zeros
none_given : (shape : List Scalar) (place : ℕ) → AllByRecursion IsLawfulScalar shape → HasShape shape (given_at place (length shape) [])
none_given shape place lawful =
    subst (λ given. HasShape shape (take (length shape) (given ++ replicate (length shape) (pos 0)))) (sym (drop_none place))
    (subst (HasShape shape) (sym (take_all (length shape) (replicate (length shape) (pos 0)) (omega (arith, length-replicate (length shape) (pos 0))))) (zeros_of_shape shape lawful))

-- what a stream gives at a frame has the shape
pub given_fits : (shape : List Scalar) (frame : ℕ) (values : List (List ℤ)) → AllByRecursion IsLawfulScalar shape → AllByRecursion (HasShape shape) values →
    HasShape shape (given_at (frame * length shape) (length shape) (flat_map (λ value. value) values))
given_fits shape frame [] lawful each = none_given shape (frame * length shape) lawful
given_fits shape zero (value ∷ values) lawful each =
    let many : length value ≡ length shape = shape_length shape value each.0 in
    let rest = flat_map (λ v. v) values in
    let start : zero * length shape ≡ 0 = zero-mul (length shape) in
    subst (λ place. HasShape shape (given_at place (length shape) (value ++ rest))) (sym start)
    (subst (HasShape shape) (sym (ap (take (length shape)) (append_assoc value rest (replicate (length shape) (pos 0))) ∙ take_at value (rest ++ replicate (length shape) (pos 0)) (length shape) many)) each.0)
given_fits shape (suc frame) (value ∷ values) lawful each =
    let many : length value ≡ length shape = shape_length shape value each.0 in
    let rest = flat_map (λ v. v) values in
    let place : suc frame * length shape ≡ length value + frame * length shape = suc-mul frame (length shape) ∙ omega (arith, many) in
    subst (λ given. HasShape shape (take (length shape) (given ++ replicate (length shape) (pos 0))))
    (sym (ap (λ p. drop p (value ++ rest)) place ∙ drop-append-add value rest (frame * length shape))) (given_fits shape frame values lawful each.1)

choose_shape : (stream : Bool) (G : Type 0) (shape : List Scalar) (value : List ℤ) → (G → HasShape shape value) → OnTrue stream G → OnTrue stream (HasShape shape (if stream then value else []))
choose_shape true G shape value of given = of given
choose_shape false G shape value of given = tt

choose_none : (stream : Bool) (value : List ℤ) → OnFalse stream ((if stream then value else []) ≡ [])
choose_none true value = tt
choose_none false value = refl

always : (stream : Bool) (P : Type 0) → P → OnTrue stream P
always true P p = p
always false P p = tt

-- no streams, as for starting values
pub no_streams : (ends : List HostEnd) (frame : ℕ) → AllByRecursion IsLawfulEnd ends → AreInputs ends (inputs_at ends [] frame)
no_streams [] frame lawful = refl
no_streams (end ∷ ends) frame lawful = (
  choose_shape (is_stream_input end) ⊤ end.shape (given_at (frame * length end.shape) (length end.shape) []) (λ _. none_given end.shape (frame * length end.shape) lawful.0.scalars) (always (is_stream_input end) ⊤ tt),
  choose_none (is_stream_input end) (given_at (frame * length end.shape) (length end.shape) []),
  no_streams ends frame lawful.1,
)

-- the streams of a script at a frame
pub streams_fit : (ends : List HostEnd) (frames frame : ℕ) (streams : List (List ℤ)) → AllByRecursion IsLawfulEnd ends → AreStreams frames ends streams → AreInputs ends (inputs_at ends streams frame)
streams_fit [] frames frame streams lawful are = refl
streams_fit (end ∷ ends) frames frame [] lawful are = absurd are
streams_fit (end ∷ ends) frames frame (given ∷ streams) lawful are = (
  choose_shape (is_stream_input end) (IsGiven frames end given) end.shape (given_at (frame * length end.shape) (length end.shape) given)
      (λ is. subst (λ scalars. HasShape end.shape (given_at (frame * length end.shape) (length end.shape) scalars)) (sym is.shaped.whole) (given_fits end.shape frame is.shaped.values lawful.0.scalars is.shaped.each)) are.0,
  choose_none (is_stream_input end) (given_at (frame * length end.shape) (length end.shape) given),
  streams_fit ends frames frame streams lawful.1 are.2,
)

-- ---- frames

-- the tasks of one frame
frame_fits : (ends : List HostEnd) (script : Script) (frame : ℕ) → AllByRecursion IsLawfulEnd ends → IsScriptFor ends script → AllByRecursion (IsTask ends) (frame_tasks ends script frame)
frame_fits ends script frame lawful is =
    let inputs = inputs_at ends script.streams frame in
    let fit = streams_fit ends script.frames frame script.streams lawful is.streams in
    all_append (IsTask ends) (map set_task (settings_at frame script.values)) (map (send_task frame inputs) (settings_at frame script.events) ++ Begin (Frame frame inputs) ∷ [])
    (all_map (IsSetting kinds.Value script.frames ends) (IsTask ends) set_task (λ setting one. record { end = one.end; found = one.found; takes = one.takes }) (settings_at frame script.values)
    (all_filter (IsSetting kinds.Value script.frames ends) (λ setting. setting.frame == frame) script.values is.values))
    (all_append (IsTask ends) (map (send_task frame inputs) (settings_at frame script.events)) (Begin (Frame frame inputs) ∷ [])
    (all_map (IsSetting kinds.Event script.frames ends) (IsTask ends) (send_task frame inputs) (λ setting one. (record { end = one.end; found = one.found; takes = one.takes }, fit)) (settings_at frame script.events)
    (all_filter (IsSetting kinds.Event script.frames ends) (λ setting. setting.frame == frame) script.events is.events))
    (fit, tt))

-- the tasks of frames
pub frames_fit : (ends : List HostEnd) (script : Script) (frame count : ℕ) → AllByRecursion IsLawfulEnd ends → IsScriptFor ends script → AllByRecursion (IsTask ends) (frames_from ends script frame count)
frames_fit ends script frame zero lawful is = tt
frames_fit ends script frame (suc count) lawful is =
    all_append (IsTask ends) (frame_tasks ends script frame) (frames_from ends script (frame + 1) count) (frame_fits ends script frame lawful is) (frames_fit ends script (frame + 1) count lawful is)

-- ---- starting values

slice_get_seam : {X : Type 0} (before : List X) (x : X) (after : List X) → slice_get (before ++ x ∷ after) (length before) ≡ Some x
slice_get_seam [] x after = refl
slice_get_seam (y ∷ before) x after = slice_get_seam before x after

-- a number between two int32 is one
between_fits : (low value high : ℤ) → low ≤ℤ value → value ≤ℤ high → FitsSigned w32 low → FitsSigned w32 high → FitsSigned w32 value
between_fits low (pos n) (pos high) above below first last = record { sfits = omega (arith, ints, below, last.sfits) }
between_fits low (pos n) (negsuc high) above below first last = absurd (omega (arith, ints, below))
between_fits (pos low) (negsuc n) high above below first last = absurd (omega (arith, ints, above))
between_fits (negsuc low) (negsuc n) high above below first last = record { sfits = omega (arith, ints, above, first.sfits) }

-- a parameter's starting value, by its kind
start_by_kind : (ends : List HostEnd) (end : HostEnd) (number : ℕ) (range : Range) (value : ℤ) (inputs : Inputs) (kind : Kind) → end.kind ≡ kind → CarriesParameter kind → slice_get ends number ≡ Some end →
    end.flow ≡ Input → HasShape end.shape (value ∷ []) → IsInRange end.parameter (value ∷ []) → AreInputs ends inputs →
    IsTask ends (if is_event kind then Begin (Send 0 number (value ∷ []) inputs) else Set number (value ∷ []))
start_by_kind ends end number range value inputs kinds.Stream is carries found flow shape in_range fit = absurd carries
start_by_kind ends end number range value inputs kinds.Value is carries found flow shape in_range fit =
    record { end = end; found = found; takes = record { flow = flow; right_kind = is; shape = shape; range = in_range } }
start_by_kind ends end number range value inputs kinds.Event is carries found flow shape in_range fit =
    (record { end = end; found = found; takes = record { flow = flow; right_kind = is; shape = shape; range = in_range } }, fit)

-- the starting value of one endpoint
start_one : (ends : List HostEnd) (end : HostEnd) (number : ℕ) (saved : List Saved) (inputs : Inputs) → slice_get ends number ≡ Some end → AreInputs ends inputs → (parameter : Option Range) → end.parameter ≡ parameter →
    IsLawfulRange end parameter → IsSavedIn end parameter saved → AllByRecursion (IsTask ends) (start_tasks_of end number parameter saved inputs)
start_one ends end number saved inputs found fit None is lawful in_range = tt
start_one ends end number saved inputs found fit (Some range) is lawful in_range =
    let value = start_of end range saved in (
      start_by_kind ends end number range value inputs end.kind refl lawful.kind found lawful.flow
          (subst (λ shape. HasShape shape (value ∷ [])) (sym lawful.shape) (between_fits range.min value range.max in_range.0 in_range.1 lawful.min_fits lawful.max_fits, tt))
          (subst (λ parameter. IsInRange parameter (value ∷ [])) (sym is) (in_range, tt)) fit,
      tt,
    )

-- the starting values of the endpoints after some others
start_all : (ends before after : List HostEnd) (number : ℕ) (saved : List Saved) (inputs : Inputs) → ends ≡ before ++ after → number ≡ length before → AreInputs ends inputs →
    AllByRecursion IsLawfulEnd after → AreSaved after saved → AllByRecursion (IsTask ends) (start_tasks after number saved inputs)
start_all ends before [] number saved inputs whole many fit lawful are = tt
start_all ends before (end ∷ after) number saved inputs whole many fit lawful are =
    all_append (IsTask ends) (start_tasks_of end number end.parameter saved inputs) (start_tasks after (number + 1) saved inputs)
    (start_one ends end number saved inputs (ap (λ l. slice_get l number) whole ∙ ap (slice_get (before ++ end ∷ after)) many ∙ slice_get_seam before end after) fit end.parameter refl lawful.0.parameter are.0)
    (start_all ends (before ++ end ∷ []) after (number + 1) saved inputs (whole ∙ sym (append_assoc before (end ∷ []) after)) (omega (arith, many, length-append before (end ∷ []))) fit lawful.1 are.1)

-- all tasks after the inits
pub tasks_fit : TasksFit
tasks_fit ends saved script frames lawful are is =
    all_append (IsTask ends) (start_tasks ends 0 saved (inputs_at ends [] 0)) (frames_from ends script 0 frames)
    (start_all ends [] ends 0 saved (inputs_at ends [] 0) refl refl (no_streams ends 0 lawful.each) lawful.each are) (frames_fit ends script 0 frames lawful.each is)
