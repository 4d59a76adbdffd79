-- How lists are read entry by entry: what was read before, and what is still read.
use Rattle.std.proofs.Common.{◌≡◌, ◌≢◌, ◌==◌, nat_le, ℕ, ℤ, ◌+◌, ◌<◌, ◌≤◌, List, [], ◌∷◌, length, get_or, drop, Bool, true, false, if◌then◌else◌, Option, Some, None, Result, Ok, Err, refl, sym, ap, ◌∙◌, append_assoc, drop-cons, add-one, arith}
use Rattle.serde_json.specs.Data.{Data}
use Rattle.serde_json.specs.Find.{as_array}
use Rattle.serde_json.specs.View.{view, items_view}
use Rattle.serde_json.proofs.Views.{items_len-items_view}
use Rattle.std.proofs.lemmas.Bool.Decides.{nat_tests}
use Rattle.serde_json.specs.declared.value.Value.{Value}
use Rattle.cm_base.specs.declared.forms.FormFault.{FormFault}
use Rattle.cm_base.specs.declared.forms.FormRule.TheVariants.{Count}
use Rattle.cm_base.specs.declared.host.Scalar.{Scalar}
use Rattle.cm_base.specs.declared.host.Range.{Range}
use Rattle.cm_base.specs.declared.host.HostEnd.{HostEnd}
use Rattle.json_value.specs.Form.{after, with_front, joined}
use Rattle.input_script.specs.declared.at.At.{At}
use Rattle.input_script.specs.Script.{scalars_of, value_for, frames_of, fails, array_of, stream_of, entry_of_items}

abbrev done : {X : Type 0} → List X → Result (List X) FormFault
done xs = Ok xs

abbrev failed : {X : Type 0} → FormFault → Result (List X) FormFault
failed fault = Err fault

-- ---- choices and lists

some_more : {X : Type 0} (front : List X) (first others : Result (List X) FormFault) → with_front front (joined first others) ≡ after (with_front front first) (λ so_far. with_front so_far others)
some_more front (Ok xs) (Ok ys) = ap done (sym (append_assoc front xs ys))
some_more front (Ok xs) (Err fault) = refl
some_more front (Err fault) others = refl

chosen : {X : Type 0} (test : Bool) (one other : X) → test ≡ false → (if test then one else other) ≡ other
chosen true one other is = absurd (cc)
chosen false one other is = refl

other_chosen : {X : Type 0} (test : Bool) (one other : X) → test ≡ true → (if test then one else other) ≡ one
other_chosen true one other is = refl
other_chosen false one other is = absurd (cc)

-- ---- scalars

-- an array of as many scalars as the shape has, and another
pub array_whole : (at : At) (range : Option Range) (shape : List Scalar) (value : Data) (values : List Value) → as_array value ≡ Some (items_view values) → length values ≡ length shape
    → array_of at range shape value ≡ scalars_of at range shape (items_view values)
array_whole at range shape value values is many =
    rw (is, items_len-items_view values) (other_chosen (length values == length shape) (scalars_of at range shape (items_view values)) (failed (fails at Count)) (grind (arith, nat_tests)))

pub array_other : (at : At) (range : Option Range) (shape : List Scalar) (value : Data) (values : List Value) → as_array value ≡ Some (items_view values) → length values ≢ length shape
    → array_of at range shape value ≡ Err (fails at Count)
array_other at range shape value values is other =
    rw (is, items_len-items_view values) (chosen (length values == length shape) (scalars_of at range shape (items_view values)) (failed (fails at Count)) (grind (arith, nat_tests)))

-- ---- frames of a stream

frames-drop : (at : At) (end : HostEnd) (values : List Value) (i : ℕ) (value : Value) → i < length values → value ≡ get_or values i value
    → frames_of at end (items_view (drop i values)) ≡ joined (value_for at end (view value)) (frames_of at end (items_view (drop (i + 1) values)))
frames-drop at end values i value within is = rw (drop-cons values i value within, sym is, add-one i) refl

pub frames_on : (at : At) (end : HostEnd) (values : List Value) (i : ℕ) (value : Value) (front new : List ℤ) (total : Result (List ℤ) FormFault)
    → i < length values → value ≡ get_or values i value
    → with_front front (value_for at end (view value)) ≡ Ok new
    → with_front front (frames_of at end (items_view (drop i values))) ≡ total
    → with_front new (frames_of at end (items_view (drop (i + 1) values))) ≡ total
frames_on at end values i value front new total within one is so_far =
    let rest = frames_of at end (items_view (drop (i + 1) values)) in
    let step = ap (with_front front) (frames-drop at end values i value within one) ∙ some_more front (value_for at end (view value)) rest in
    sym (step ∙ ap (λ r. after r (λ so_far. with_front so_far rest)) is) ∙ so_far

-- a stream of few enough values, and of too many
pub stream_few : (at : At) (frames : ℕ) (end : HostEnd) (value : Data) (values : List Value) → as_array value ≡ Some (items_view values) → length values ≤ frames
    → stream_of at frames end value ≡ frames_of at end (items_view values)
stream_few at frames end value values is few =
    rw (is, items_len-items_view values) (other_chosen (nat_le (length values) frames) (frames_of at end (items_view values)) (failed (fails at Count)) (grind (arith, nat_tests)))

pub stream_many : (at : At) (frames : ℕ) (end : HostEnd) (value : Data) (values : List Value) → as_array value ≡ Some (items_view values) → frames < length values
    → stream_of at frames end value ≡ Err (fails at Count)
stream_many at frames end value values is many =
    rw (is, items_len-items_view values) (chosen (nat_le (length values) frames) (frames_of at end (items_view values)) (failed (fails at Count)) (grind (arith, nat_tests)))

-- ---- entries

abbrev no_entry : (values : List Value) → Type 0
no_entry values = entry_of_items (items_view values) ≡ None

-- an array that is too short or too long is no entry
pub entry_short : (values : List Value) → length values < 3 → no_entry values
entry_short [] few = refl
entry_short (a ∷ []) few = refl
entry_short (a ∷ b ∷ []) few = refl
entry_short (a ∷ b ∷ c ∷ values) few = absurd (omega arith)

pub entry_long : (values : List Value) → 4 ≤ length values → no_entry values
entry_long [] many = absurd (omega arith)
entry_long (a ∷ []) many = absurd (omega arith)
entry_long (a ∷ b ∷ []) many = absurd (omega arith)
entry_long (a ∷ b ∷ c ∷ []) many = absurd (omega arith)
entry_long (a ∷ b ∷ c ∷ d ∷ values) many = refl
