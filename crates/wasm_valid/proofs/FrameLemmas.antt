-- The open sequences, as operands and frames keep them.
use Rattle.std.proofs.Common.{◌≡◌, ◌≤◌, ◌<◌, ◌+◌, ◌-◌, ℕ, zero, suc, List, [], ◌∷◌, ◌++◌, length, get_or, take, drop, Option, Some, None, Bool, true, false, refl, sym, ap, ◌∙◌, subst, arith, length-append}
use Rattle.std.specs.Prelude.{map, reverse, slice_get}
use Rattle.std.specs.Option.{option_map}
use Rattle.std.proofs.lemmas.List.{reverse-append, length-reverse, take-append-drop, length-take-le, length-drop, length-map, get_or-reverse}
use Rattle.std.proofs.lemmas.Option.{slice_get-map, slice_get-get_or, slice_get_past}
use Rattle.std.proofs.lemmas.List.Sums.{sum_by-cons}
use Rattle.std.proofs.Math.Seq.{drop-append_seam}
use Rattle.wasm_tree.specs.declared.module.ValType.{ValType}
use Rattle.wasm_valid.specs.declared.operands.Frame.{Frame}
use Rattle.wasm_valid.specs.Checking.{Sequence, unreached, take_any, labels_of, height, opened}
use Rattle.wasm_valid.specs.Frames.{sequence, below, sequences, AreFloors, open_sequences, AreKept, TookAny, HasNone, with_one, with_none}

abbrev Types : Type 0
Types = List (Option ValType)

-- ---- one operand more

more : (t : Option ValType) (ts : Types) (floor : ℕ) → floor ≤ length ts → length (t ∷ ts) - floor ≡ suc (length ts - floor)
more t ts floor le = omega arith

put_on : (t : Option ValType) (ts : Types) (f : Frame) (fs : List Frame) → f.floor ≤ length ts → sequences (t ∷ ts) (f ∷ fs) ≡ with_one t (sequences ts (f ∷ fs))
put_on t ts f fs le =
    ap (λ (n : ℕ). record { label = f.label; result = f.result; arm = f.arm; known = record { dead = f.dead; types = take n (t ∷ ts) } } ∷ sequences (drop n (t ∷ ts)) fs) (more t ts f.floor le)

floors_put : (t : Option ValType) (ts : Types) (f : Frame) (fs : List Frame) → AreFloors ts (f ∷ fs) → AreFloors (t ∷ ts) (f ∷ fs)
floors_put t ts f fs h = (omega (arith, h.0), subst (λ (n : ℕ). AreFloors (drop n (t ∷ ts)) fs) (sym (more t ts f.floor h.0)) h.1)

floors_taken : (t : Option ValType) (ts : Types) (f : Frame) (fs : List Frame) → f.floor ≤ length ts → AreFloors (t ∷ ts) (f ∷ fs) → AreFloors ts (f ∷ fs)
floors_taken t ts f fs le h = (le, subst (λ (n : ℕ). AreFloors (drop n (t ∷ ts)) fs) (more t ts f.floor le) h.1)

last_first : (xs : Types) (t : Option ValType) → reverse (xs ++ t ∷ []) ≡ t ∷ reverse xs
last_first xs t = reverse-append xs (t ∷ [])

pub put : (ended : Bool) (xs : Types) (t : Option ValType) (f : Frame) (outer : List Frame) → AreKept ended xs f outer → open_sequences ended (xs ++ t ∷ []) f outer ≡ with_one t (open_sequences ended xs f outer)
put true xs t f outer h = refl
put false xs t f outer h = ap (λ ts. sequences ts (f ∷ reverse outer)) (last_first xs t) ∙ put_on t (reverse xs) f (reverse outer) h.0

pub kept_put : (ended : Bool) (xs : Types) (t : Option ValType) (f : Frame) (outer : List Frame) → 0 < length (open_sequences ended xs f outer) → AreKept ended xs f outer → AreKept ended (xs ++ t ∷ []) f outer
kept_put true xs t f outer some h = absurd (omega (arith, some))
kept_put false xs t f outer some h = subst (λ ts. AreFloors ts (f ∷ reverse outer)) (sym (last_first xs t)) (floors_put t (reverse xs) f (reverse outer) h)

-- ---- one operand less

none_of : (ts : Types) (floor : ℕ) → length ts ≡ floor → length ts - floor ≡ 0
none_of ts floor e = omega arith

own_none : (ts : Types) (f : Frame) → length ts ≡ f.floor → take (length ts - f.floor) ts ≡ []
own_none ts f e = ap (λ (n : ℕ). take n ts) (none_of ts f.floor e)

with_itself : (dead : Bool) (ts : Types) → ts ≡ [] → dead ≡ true → take_any (record { dead = dead; types = ts }) ≡ Some (None, record { dead = dead; types = ts })
unfolding take_any
with_itself true [] e d = refl
with_itself false [] e d = absurd cc
with_itself dead (t ∷ ts) e d = absurd cc

with_nothing : (dead : Bool) (ts : Types) → ts ≡ [] → dead ≡ false → take_any (record { dead = dead; types = ts }) ≡ None
unfolding take_any
with_nothing true [] e d = absurd cc
with_nothing false [] e d = refl
with_nothing dead (t ∷ ts) e d = absurd cc

pub took_below : (ended : Bool) (xs : Types) (f : Frame) (outer : List Frame) → 0 < length (open_sequences ended xs f outer) → length xs ≡ f.floor → f.dead ≡ true → TookAny (open_sequences ended xs f outer) None (open_sequences ended xs f outer)
took_below true xs f outer some e d = absurd (omega (arith, some))
took_below false xs f outer some e d =
    let none = own_none (reverse xs) f (length-reverse xs ∙ e) in
    ((sequence (reverse xs) f).known, with_itself f.dead _ none d, refl)

pub took_none : (ended : Bool) (xs : Types) (f : Frame) (outer : List Frame) → 0 < length (open_sequences ended xs f outer) → length xs ≡ f.floor → f.dead ≡ false → HasNone (open_sequences ended xs f outer)
took_none true xs f outer some e d = tt
took_none false xs f outer some e d = with_nothing f.dead _ (own_none (reverse xs) f (length-reverse xs ∙ e)) d

below_last : (xs : Types) (t : Option ValType) (f : Frame) (outer : List Frame) → AreKept false (xs ++ t ∷ []) f outer → (length (xs ++ t ∷ []) ≡ f.floor → ⊥) → f.floor ≤ length (reverse xs)
below_last xs t f outer h other =
    let n : length (xs ++ t ∷ []) ≡ length xs + 1 = length-append xs (t ∷ []) in
    let le : f.floor ≤ length (xs ++ t ∷ []) = subst (λ (n : ℕ). f.floor ≤ n) (length-reverse (xs ++ t ∷ [])) h.0 in
    let apart : f.floor ≡ length (xs ++ t ∷ []) → ⊥ = λ e. other (sym e) in
    omega (arith, length-reverse xs, le, apart, n)

pub took : (ended : Bool) (xs ys : Types) (t : Option ValType) (f : Frame) (outer : List Frame) → 0 < length (open_sequences ended xs f outer) → xs ≡ ys ++ t ∷ [] → AreKept ended xs f outer → (length xs ≡ f.floor → ⊥) → TookAny (open_sequences ended xs f outer) t (open_sequences ended ys f outer)
unfolding take_any
took true xs ys t f outer some e h other = absurd (omega (arith, some))
took false xs ys t f outer some e h other =
    let le = below_last ys t f outer (subst (λ l. AreKept false l f outer) e h) (λ q. other (ap (λ (l : Types). length l) e ∙ q)) in
    let is : open_sequences false xs f outer ≡ with_one t (sequences (reverse ys) (f ∷ reverse outer)) =
    ap (λ l. open_sequences false l f outer) e ∙ (ap (λ ts. sequences ts (f ∷ reverse outer)) (last_first ys t) ∙ put_on t (reverse ys) f (reverse outer) le) in
    subst (λ l. TookAny l t (open_sequences false ys f outer)) (sym is) ((sequence (reverse ys) f).known, refl, refl)

pub kept_taken : (ended : Bool) (xs ys : Types) (t : Option ValType) (f : Frame) (outer : List Frame) → 0 < length (open_sequences ended xs f outer) → xs ≡ ys ++ t ∷ [] → AreKept ended xs f outer → (length xs ≡ f.floor → ⊥) → AreKept ended ys f outer
kept_taken true xs ys t f outer some e h other = absurd (omega (arith, some))
kept_taken false xs ys t f outer some e h other =
    let kept = subst (λ l. AreKept false l f outer) e h in
    let le = below_last ys t f outer kept (λ q. other (ap (λ (l : Types). length l) e ∙ q)) in
    floors_taken t (reverse ys) f (reverse outer) le (subst (λ ts. AreFloors ts (f ∷ reverse outer)) (last_first ys t) kept)

-- ---- how many

length_below : (ts : Types) (f : Frame) → f.floor ≤ length ts → length (take (length ts - f.floor) ts) + length (below ts f) ≡ length ts
length_below ts f le = sym (length-append (take (length ts - f.floor) ts) (below ts f)) ∙ ap (λ (l : Types). length l) (take-append-drop (length ts - f.floor) ts)

all_of : (ts : Types) (fs : List Frame) → AreFloors ts fs → height (sequences ts fs) ≡ length ts
all_of ts [] h = ap (λ (l : Types). length l) (sym h)
all_of ts (f ∷ fs) h =
    sum_by-cons (λ (s : Sequence). length s.known.types) (sequence ts f) (sequences (below ts f) fs)
    ∙ (ap (λ (n : ℕ). length (take (length ts - f.floor) ts) + n) (all_of (below ts f) fs h.1) ∙ length_below ts f h.0)

pub all_held : (ended : Bool) (xs : Types) (f : Frame) (outer : List Frame) → AreKept ended xs f outer → length xs ≡ height (open_sequences ended xs f outer)
all_held true xs f outer h = ap (λ (l : Types). length l) h
all_held false xs f outer h = sym (all_of (reverse xs) (f ∷ reverse outer) h ∙ length-reverse xs)

length_sequences : (ts : Types) (fs : List Frame) → length (sequences ts fs) ≡ length fs
length_sequences ts [] = refl
length_sequences ts (f ∷ fs) = ap suc (length_sequences (below ts f) fs)

pub all_open : (xs : Types) (f : Frame) (outer : List Frame) → length (open_sequences false xs f outer) ≡ length outer + 1
all_open xs f outer = omega (arith, length_sequences (reverse xs) (f ∷ reverse outer), length-reverse outer)

-- ---- labels

labels_are : (ts : Types) (fs : List Frame) → labels_of (sequences ts fs) ≡ map (λ f. f.label) fs
labels_are ts [] = refl
labels_are ts (f ∷ fs) = ap (λ l. f.label ∷ l) (labels_are (below ts f) fs)

-- ---- nothing reached

cut : (n : ℕ) (xs : Types) → n ≤ length xs → reverse (take n xs) ≡ drop (length (reverse xs) - n) (reverse xs)
cut n xs le =
    let whole : reverse xs ≡ reverse (drop n xs) ++ reverse (take n xs) = ap reverse (sym (take-append-drop n xs)) ∙ reverse-append (take n xs) (drop n xs) in
    let k : length (reverse xs) - n ≡ length (reverse (drop n xs)) = omega (arith, length-reverse xs, length-reverse (drop n xs), length-drop n xs) in
    sym (ap (λ (m : ℕ). drop m (reverse xs)) k ∙ (ap (λ l. drop (length (reverse (drop n xs))) l) whole ∙ drop-append_seam (reverse (drop n xs)) (reverse (take n xs))))

dead_frame : Frame → Frame
dead_frame f = record f { dead = true }

pub died : (ended : Bool) (xs : Types) (f g : Frame) (outer : List Frame) → 0 < length (open_sequences ended xs f outer) → AreKept ended xs f outer → g ≡ record f { dead = true } → open_sequences ended (take f.floor xs) g outer ≡ with_none (open_sequences ended xs f outer)
died true xs f g outer some h e = refl
died false xs f g outer some h e =
    let le : f.floor ≤ length xs = subst (λ (n : ℕ). f.floor ≤ n) (length-reverse xs) h.0 in
    let ts = reverse (take f.floor xs) in
    let n : length ts ≡ f.floor = length-reverse (take f.floor xs) ∙ length-take-le f.floor xs le in
    let z : length ts - f.floor ≡ 0 = omega arith in
    let c = cut f.floor xs le in
    subst (λ g. sequences ts (g ∷ reverse outer) ≡ with_none (open_sequences false xs f outer)) (sym e)
    (ap (λ (m : ℕ). record { label = f.label; result = f.result; arm = f.arm; known = record { dead = true; types = take m ts } } ∷ sequences (drop m ts) (reverse outer)) z
    ∙ ap (λ l. record { label = f.label; result = f.result; arm = f.arm; known = unreached } ∷ sequences l (reverse outer)) c)

pub kept_dead : (ended : Bool) (xs : Types) (f g : Frame) (outer : List Frame) → 0 < length (open_sequences ended xs f outer) → AreKept ended xs f outer → g ≡ record f { dead = true } → AreKept ended (take f.floor xs) g outer
kept_dead true xs f g outer some h e = absurd (omega (arith, some))
kept_dead false xs f g outer some h e =
    let le : f.floor ≤ length xs = subst (λ (n : ℕ). f.floor ≤ n) (length-reverse xs) h.0 in
    let ts = reverse (take f.floor xs) in
    let n : length ts ≡ f.floor = length-reverse (take f.floor xs) ∙ length-take-le f.floor xs le in
    let z : length ts - f.floor ≡ 0 = omega arith in
    let c = cut f.floor xs le in
    subst (λ g. AreFloors ts (g ∷ reverse outer)) (sym e)
    (omega arith, subst (λ (m : ℕ). AreFloors (drop m ts) (reverse outer)) (sym z) (subst (λ l. AreFloors l (reverse outer)) (sym c) h.1))

-- ---- one sequence more

open_new : Option ValType → Option ValType → Bool → ℕ → Frame
open_new label gives arm floor = record { floor = floor; label = label; result = gives; arm = arm; dead = false }

pub open_inside : (xs : Types) (f g : Frame) (outer : List Frame) (label gives : Option ValType) (arm : Bool) → g ≡ record { floor = length xs; label = label; result = gives; arm = arm; dead = false } → open_sequences false xs g (outer ++ f ∷ []) ≡ opened label gives arm (open_sequences false xs f outer)
open_inside xs f g outer label gives arm e =
    let z : length (reverse xs) - length xs ≡ 0 = omega (arith, length-reverse xs) in
    subst (λ g. open_sequences false xs g (outer ++ f ∷ []) ≡ opened label gives arm (open_sequences false xs f outer)) (sym e)
    (ap (λ (m : ℕ). record { label = label; result = gives; arm = arm; known = record { dead = false; types = take m (reverse xs) } } ∷ sequences (drop m (reverse xs)) (reverse (outer ++ f ∷ []))) z
    ∙ ap (λ fs. opened label gives arm (sequences (reverse xs) fs)) (reverse-append outer (f ∷ [])))

pub kept_open : (ended : Bool) (xs : Types) (f g : Frame) (outer : List Frame) (label gives : Option ValType) (arm : Bool) → 0 < length (open_sequences ended xs f outer) → AreKept ended xs f outer → g ≡ record { floor = length xs; label = label; result = gives; arm = arm; dead = false } → AreKept ended xs g (outer ++ f ∷ [])
kept_open true xs f g outer label gives arm some h e = absurd (omega (arith, some))
kept_open false xs f g outer label gives arm some h e =
    let z : length (reverse xs) - length xs ≡ 0 = omega (arith, length-reverse xs) in
    subst (λ g. AreKept false xs g (outer ++ f ∷ [])) (sym e) (
      omega (arith, length-reverse xs),
      subst (λ (m : ℕ). AreFloors (drop m (reverse xs)) (reverse (outer ++ f ∷ []))) (sym z)
          (subst (λ fs. AreFloors (reverse xs) fs) (sym (reverse-append outer (f ∷ []))) h),
    )

label_list : (xs : Types) (f : Frame) (outer : List Frame) → labels_of (open_sequences false xs f outer) ≡ f.label ∷ map (λ f. f.label) (reverse outer)
label_list xs f outer = labels_are (reverse xs) (f ∷ reverse outer)

pub inner_label : (xs : Types) (f : Frame) (outer : List Frame) → slice_get (labels_of (open_sequences false xs f outer)) 0 ≡ Some f.label
inner_label xs f outer = ap (λ l. slice_get l 0) (label_list xs f outer)

from_end : (outer : List Frame) (d : Frame) (n : ℕ) → n < length outer → slice_get (reverse outer) n ≡ slice_get outer (length outer - suc n)
from_end outer d n lt =
    let k : length outer - 1 - n ≡ length outer - suc n = omega arith in
    slice_get-get_or (reverse outer) n d (omega (arith, length-reverse outer))
    ∙ (ap (λ (x : Frame). Some x) (get_or-reverse outer n d lt ∙ ap (λ (i : ℕ). get_or outer i d) k) ∙ sym (slice_get-get_or outer (length outer - suc n) d (omega arith)))

pub outer_label : (xs : Types) (f : Frame) (outer : List Frame) (number : ℕ) → 0 < number → number ≤ length outer → slice_get (labels_of (open_sequences false xs f outer)) number ≡ option_map (λ f. f.label) (slice_get outer (length outer - number))
outer_label xs f outer zero some le = absurd (omega (arith, some))
outer_label xs f outer (suc n) some le =
    ap (λ l. slice_get l (suc n)) (label_list xs f outer)
    ∙ (slice_get-map (λ (f : Frame). f.label) (reverse outer) n ∙ ap (λ o. option_map (λ (f : Frame). f.label) o) (from_end outer f n (omega (arith, le))))

pub label_from : (ended : Bool) (xs : Types) (f : Frame) (outer : List Frame) (number at : ℕ) (d : Frame) → ended ≡ false → (number ≡ 0 → ⊥) → number ≤ length outer → at ≡ length outer - number → Some (get_or outer at d).label ≡ slice_get (labels_of (open_sequences ended xs f outer)) number
label_from true xs f outer number at d e some le is = absurd (cc e)
label_from false xs f outer number at d e some le is =
    let there : slice_get outer (length outer - number) ≡ Some (get_or outer (length outer - number) d) = slice_get-get_or outer (length outer - number) d (omega arith) in
    ap (λ (n : ℕ). Some (get_or outer n d).label) is
    ∙ sym (outer_label xs f outer number (omega arith) le ∙ ap (λ o. option_map (λ (f : Frame). f.label) o) there)

pub no_label : (xs : Types) (f : Frame) (outer : List Frame) (number : ℕ) → length outer < number → slice_get (labels_of (open_sequences false xs f outer)) number ≡ None
no_label xs f outer number lt =
    slice_get_past (labels_of (open_sequences false xs f outer)) number (omega (arith, lt, ap (λ l. length l) (label_list xs f outer), length-map (reverse outer) (λ (f : Frame). f.label), length-reverse outer))
