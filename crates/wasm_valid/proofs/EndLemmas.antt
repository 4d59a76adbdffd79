-- The end of a sequence.
use Rattle.std.proofs.Common.{◌≡◌, ◌<◌, ◌≤◌, ◌-◌, ℕ, zero, suc, List, [], ◌∷◌, ◌++◌, length, take, drop, Option, Some, None, Bool, true, false, refl, sym, ap, ◌∙◌, subst, arith, eqb}
use Rattle.std.specs.Prelude.{reverse, not, ◌&&◌, ◌||◌}
use Rattle.std.specs.Option.{option_and_then, option_map}
use Rattle.std.proofs.lemmas.List.{reverse-append, length-reverse}
use Rattle.std.proofs.lemmas.Bool.Decides.{nat_tests}
use Rattle.wasm_tree.specs.declared.module.ValType.{ValType}
use Rattle.wasm_tree.specs.Typed.{result_types}
use Rattle.wasm_valid.specs.declared.operands.Frame.{Frame}
use Rattle.wasm_valid.specs.Checking.{Known, Sequence, with_known, some_if, take_one, take_all, is_taken, is_finished, gives, gives_nothing, second}
use Rattle.wasm_valid.proofs.OperandTypes.{some_is}
use Rattle.wasm_valid.specs.Frames.{below, sequences, AreFloors, open_sequences, AreKept, with_one, changed, is_bare, bare_of, result_of, arm_of, second_of, others_of, second_step, close_step, Finishes}

abbrev Types : Type 0
Types = List (Option ValType)

zero_of : (ts : Types) (floor : ℕ) → length ts ≡ floor → length ts - floor ≡ 0
zero_of ts floor e = omega arith

-- whether there are operands of its own
bare_take : (n : ℕ) (ts : Types) → n ≤ length ts → bare_of (take n ts) ≡ eqb n 0
bare_take zero ts le = refl
bare_take (suc n) [] le = absurd (omega (arith, le))
bare_take (suc n) (t ∷ ts) le = sym (apart (suc n) 0 (omega arith))
  where
    apart : (a b : ℕ) → b < a → eqb a b ≡ false
    apart a b lt = grind (arith, nat_tests)

pub bare_is : (ended : Bool) (xs : Types) (f : Frame) (outer : List Frame) → 0 < length (open_sequences ended xs f outer) → AreKept ended xs f outer → eqb (length xs) f.floor ≡ is_bare (open_sequences ended xs f outer)
bare_is true xs f outer some h = absurd (omega (arith, some))
bare_is false xs f outer some h =
    let n : length (reverse xs) - f.floor ≤ length (reverse xs) = omega arith in
    let le : f.floor ≤ length xs = subst (λ (n : ℕ). f.floor ≤ n) (length-reverse xs) h.0 in
    same (length xs) f.floor (length (reverse xs)) (length-reverse xs) le ∙ sym (bare_take (length (reverse xs) - f.floor) (reverse xs) n)
  where
    same : (a b c : ℕ) → c ≡ a → b ≤ a → eqb a b ≡ eqb (c - b) 0
    same a b c e le = grind (arith, nat_tests)

-- the second arm
pub second_is : (ended : Bool) (xs : Types) (f g : Frame) (outer : List Frame) → 0 < length (open_sequences ended xs f outer) → AreKept ended xs f outer → is_bare (open_sequences ended xs f outer) ≡ true → g ≡ record f { arm = false; dead = false } → open_sequences ended xs g outer ≡ second_of (open_sequences ended xs f outer)
second_is true xs f g outer some h b e = refl
second_is false xs f g outer some h b e =
    let none = empty (take (length (reverse xs) - f.floor) (reverse xs)) b in
    subst (λ g. sequences (reverse xs) (g ∷ reverse outer) ≡ second_of (open_sequences false xs f outer)) (sym e)
    (ap (λ ts. record { label = f.label; result = f.result; arm = false; known = record { dead = false; types = ts } } ∷ sequences (below (reverse xs) f) (reverse outer)) none)
  where
    empty : (ts : Types) → bare_of ts ≡ true → ts ≡ []
    empty [] e = refl
    empty (t ∷ ts) e = absurd cc

pub kept_second : (ended : Bool) (xs : Types) (f g : Frame) (outer : List Frame) → AreKept ended xs f outer → g ≡ record f { arm = false; dead = false } → AreKept ended xs g outer
kept_second true xs f g outer h e = h
kept_second false xs f g outer h e = subst (λ g. AreKept false xs g outer) (sym e) h

empty_own : (ts : Types) (n : ℕ) → n ≤ length ts → bare_of (take n ts) ≡ true → n ≡ 0
empty_own ts zero le e = refl
empty_own [] (suc n) le e = absurd (omega (arith, le))
empty_own (t ∷ ts) (suc n) le e = absurd cc

-- the sequences around
pub left_to : (ended : Bool) (xs : Types) (f g : Frame) (outer ys : List Frame) → 0 < length (open_sequences ended xs f outer) → AreKept ended xs f outer → is_bare (open_sequences ended xs f outer) ≡ true → outer ≡ ys ++ g ∷ [] → open_sequences ended xs g ys ≡ others_of (open_sequences ended xs f outer)
left_to true xs f g outer ys some h b e = refl
left_to false xs f g outer ys some h b e =
    let z : length (reverse xs) - f.floor ≡ 0 = empty_own (reverse xs) _ (omega arith) b in
    sym (ap (λ (n : ℕ). sequences (drop n (reverse xs)) (reverse outer)) z ∙ ap (λ fs. sequences (reverse xs) fs) (ap reverse e ∙ reverse-append ys (g ∷ [])))

pub kept_left : (ended : Bool) (xs : Types) (f g : Frame) (outer ys : List Frame) → 0 < length (open_sequences ended xs f outer) → AreKept ended xs f outer → is_bare (open_sequences ended xs f outer) ≡ true → outer ≡ ys ++ g ∷ [] → AreKept ended xs g ys
kept_left true xs f g outer ys some h b e = absurd (omega (arith, some))
kept_left false xs f g outer ys some h b e =
    let z : length (reverse xs) - f.floor ≡ 0 = empty_own (reverse xs) _ (omega arith) b in
    subst (λ fs. AreFloors (reverse xs) fs) (ap reverse e ∙ reverse-append ys (g ∷ [])) (subst (λ (n : ℕ). AreFloors (drop n (reverse xs)) (reverse outer)) z h.1)

pub left_last : (ended : Bool) (xs : Types) (f : Frame) (outer : List Frame) → 0 < length (open_sequences ended xs f outer) → outer ≡ [] → [] ≡ others_of (open_sequences ended xs f outer)
left_last true xs f outer some e = refl
left_last false xs f outer some e = ap (λ fs. sequences (below (reverse xs) f) fs) (sym (ap reverse e))

pub kept_last : (ended : Bool) (xs : Types) (f g : Frame) (outer ys : List Frame) → 0 < length (open_sequences ended xs f outer) → AreKept ended xs f outer → is_bare (open_sequences ended xs f outer) ≡ true → outer ≡ [] → AreKept true xs g ys
kept_last true xs f g outer ys some h b e = absurd (omega (arith, some))
kept_last false xs f g outer ys some h b e =
    let z : length (reverse xs) - f.floor ≡ 0 = empty_own (reverse xs) _ (omega arith) b in
    let none : reverse xs ≡ [] = subst (λ fs. AreFloors (reverse xs) fs) (ap reverse e) (subst (λ (n : ℕ). AreFloors (drop n (reverse xs)) (reverse outer)) z h.1) in
    gone xs (sym (length-reverse xs) ∙ ap (λ (l : Types). length l) none)
  where
    gone : (xs : Types) → length xs ≡ 0 → xs ≡ []
    gone [] e = refl
    gone (x ∷ xs) e = absurd (omega (arith, e))

-- ---- just the result stands there

finishes : (b : Bool) (s : Sequence) (ss : List Sequence) (k : Known) → take_all (result_types s.result) s.known ≡ Some k → b ≡ bare_of k.types → Finishes b (s ∷ ss) (with_known k s ∷ ss)
finishes true s ss k e is = (ap is_taken e ∙ sym is, k, refl, sym is)
finishes false s ss k e is = ap is_taken e ∙ sym is

all_of_none : (t : Option ValType) (known : Known) → t ≡ None → take_all (result_types t) known ≡ Some known
unfolding take_all
all_of_none None known e = refl
all_of_none (Some t) known e = absurd cc

only_none : (o : Option Known) → option_and_then (take_all []) o ≡ o
unfolding take_all
only_none None = refl
only_none (Some k) = refl

all_of_one : (r : Option ValType) (t : ValType) (known : Known) → r ≡ Some t → take_all (result_types r) known ≡ take_one t known
unfolding take_all
all_of_one None t known e = absurd cc
all_of_one (Some u) t known e = let same : u ≡ t = cc e in ap (λ (v : ValType). option_and_then (take_all []) (take_one v known)) same ∙ only_none (take_one t known)

pub finish_none : (ss : List Sequence) (b : Bool) → 0 < length ss → result_of ss ≡ None → b ≡ is_bare ss → Finishes b ss ss
finish_none [] b some e is = absurd (omega (arith, some))
finish_none (s ∷ ss) b some e is = finishes b s ss s.known (all_of_none s.result s.known e) is

pub finish_one : (ss after : List Sequence) (t : ValType) (b : Bool) → result_of ss ≡ Some t → changed (take_one t) ss ≡ Some after → b ≡ is_bare after → Finishes b ss after
finish_one [] after t b e h is = absurd cc
finish_one (s ∷ ss) after t b e h is = at (take_one t s.known) refl h
  where
    at : (o : Option Known) → take_one t s.known ≡ o → option_map (λ known. with_known known s ∷ ss) o ≡ Some after → Finishes b (s ∷ ss) after
    at None ek h = absurd cc
    at (Some k) ek h =
        let same : with_known k s ∷ ss ≡ after = some_is _ _ h in
        subst (λ l. Finishes b (s ∷ ss) l) same (finishes b s ss k (all_of_one s.result t s.known e ∙ ek) (is ∙ ap is_bare (sym same)))

pub finish_lacks : (ss after : List Sequence) (t : ValType) → 0 < length ss → result_of ss ≡ Some t → changed (take_one t) ss ≡ None → Finishes false ss after
finish_lacks [] after t some e h = absurd (omega (arith, some))
finish_lacks (s ∷ ss) after t some e h = at (take_one t s.known) refl h
  where
    at : (o : Option Known) → take_one t s.known ≡ o → option_map (λ known. with_known known s ∷ ss) o ≡ None → is_finished s ≡ false
    at None ek h = ap is_taken (all_of_one s.result t s.known e ∙ ek)
    at (Some k) ek h = absurd cc

-- ---- the end of an arm

pub arm_ends : (ss after : List Sequence) → arm_of ss ≡ true → Finishes true ss after → second_step ss ≡ Some (second_of after)
arm_ends [] after a f = absurd f
arm_ends (s ∷ ss) after a f = rw (a, f.0) (ap (λ l. Some (second_of l)) (sym f.2))

pub arm_stays : (ss after : List Sequence) → Finishes false ss after → second_step ss ≡ None
arm_stays [] after f = refl
arm_stays (s ∷ ss) after f = at s.arm
  where
    at : (arm : Bool) → some_if (arm && is_finished s) (second s ∷ ss) ≡ None
    at true = ap (λ b. some_if b (second s ∷ ss)) f
    at false = refl

pub no_arm : (ss : List Sequence) → arm_of ss ≡ false → second_step ss ≡ None
no_arm [] a = refl
no_arm (s ∷ ss) a = ap (λ (b : Bool). some_if (b && is_finished s) (second s ∷ ss)) a

-- ---- the end of a sequence

pub not_finished : (ss after : List Sequence) → Finishes false ss after → close_step ss ≡ None
not_finished [] after f = refl
not_finished (s ∷ ss) after f = ap (λ (b : Bool). some_if (b && (not s.arm || gives_nothing s.result)) (gives s.result ss)) f

pub gives_value : (ss after : List Sequence) (t : ValType) → Finishes true ss after → arm_of ss ≡ true → result_of ss ≡ Some t → close_step ss ≡ None
gives_value [] after t f a e = refl
gives_value (s ∷ ss) after t f a e = rw (f.0, a, e) refl

others_are : (s : Sequence) (ss after : List Sequence) (k : Known) → after ≡ with_known k s ∷ ss → others_of after ≡ ss
others_are s ss after k e = ap others_of e

pub closes_none : (ss after : List Sequence) → Finishes true ss after → result_of ss ≡ None → close_step ss ≡ Some (others_of after)
closes_none [] after f e = absurd f
closes_none (s ∷ ss) after f e =
    let o = others_are s ss after f.1 f.2 in
    ap (λ (b : Bool). some_if (b && (not s.arm || gives_nothing s.result)) (gives s.result ss)) f.0
    ∙ (ap (λ (t : Option ValType). some_if (not s.arm || gives_nothing t) (gives t ss)) e ∙ (at s.arm ∙ ap (λ (l : List Sequence). Some l) (none ss ∙ sym o)))
  where
    at : (arm : Bool) → some_if (not arm || true) (gives None ss) ≡ Some (gives None ss)
    at true = refl
    at false = refl

    none : (ss : List Sequence) → gives None ss ≡ ss
    none [] = refl
    none (s ∷ ss) = refl

pub closes_one : (ss after : List Sequence) (r : Option ValType) (t : ValType) → Finishes true ss after → arm_of ss ≡ false → result_of ss ≡ r → r ≡ Some t → close_step ss ≡ Some (with_one r (others_of after))
closes_one [] after r t f a e is = absurd f
closes_one (s ∷ ss) after r t f a e is =
    let o = others_are s ss after f.1 f.2 in
    let rt : s.result ≡ Some t = e ∙ is in
    ap (λ (b : Bool). some_if (b && (not s.arm || gives_nothing s.result)) (gives s.result ss)) f.0
    ∙ (ap (λ (arm : Bool). some_if (not arm || gives_nothing s.result) (gives s.result ss)) a
    ∙ (ap (λ (t : Option ValType). Some (gives t ss)) rt ∙ (ap (λ (l : List Sequence). Some l) (one ss) ∙ (ap (λ l. Some (with_one (Some t) l)) (sym o) ∙ ap (λ r. Some (with_one r (others_of after))) (sym is)))))
  where
    one : (ss : List Sequence) → gives (Some t) ss ≡ with_one (Some t) ss
    one [] = refl
    one (s ∷ ss) = refl

pub others_empty : (r : Option ValType) (ss : List Sequence) → ss ≡ [] → ss ≡ with_one r ss
others_empty r ss e = e ∙ sym (ap (with_one r) e)
