-- How many sequences are open where an instruction stands.
use Rattle.std.proofs.Common.{◌≡◌, ◌<◌, ◌≤◌, ◌+◌, ℕ, List, [], ◌∷◌, ◌++◌, length, get_or, take, drop, Option, Some, None, Bool, true, false, cond, refl, sym, ap, ◌∙◌, subst, arith, ◌⊎◌, inl, inr}
use Rattle.std.specs.Prelude.{slice_get, nat_le}
use Rattle.std.specs.Option.{option_and_then}
use Rattle.std.proofs.lemmas.List.{take-append-drop, take_more}
use Rattle.std.proofs.lemmas.Option.{slice_get_within, get_or_from_slice_get, slice_get-get_or}
use Rattle.wasm_tree.specs.declared.instr.Instr.{Instr}
use Rattle.wasm_tree.specs.declared.instr.Instr.TheVariants as instr
use Rattle.wasm_tree.specs.Control.{most_open, opened, after_instruction, after_code, at_begin, IsOpen, IsClosed}
use Rattle.wasm_tree.specs.Numbers.{IsThere}
use Rattle.wasm_valid.specs.Indexed.{counts_of, open_after}
use Rattle.wasm_valid.specs.declared.index.Space.{Space}
use Rattle.wasm_valid.proofs.OperandTypes.{some_is, then_some}

later : (xs ys : List Instr) → ((next : List Bool) → after_code next (xs ++ ys) ≡ option_and_then (λ a. after_code a ys) (after_code next xs)) → (o : Option (List Bool))
    → option_and_then (λ next. after_code next (xs ++ ys)) o ≡ option_and_then (λ a. after_code a ys) (option_and_then (λ next. after_code next xs) o)
later xs ys again None = refl
later xs ys again (Some next) = again next

after_append : (arms : List Bool) (xs ys : List Instr) → after_code arms (xs ++ ys) ≡ option_and_then (λ a. after_code a ys) (after_code arms xs)
after_append arms [] ys = refl
after_append arms (x ∷ xs) ys = later xs ys (λ next. after_append next xs ys) (after_instruction arms x)

room_is : (arm : Bool) (arms next : List Bool) → opened arm arms ≡ Some next → next ≡ arm ∷ arms
room_is arm arms next e = at (nat_le (length arms) most_open) e
  where
    at : (b : Bool) → cond b (Some (arm ∷ arms)) None ≡ Some next → next ≡ arm ∷ arms
    at true e = sym (some_is _ _ e)
    at false e = absurd cc

depth_after : (arms next : List Bool) (i : Instr) → after_instruction arms i ≡ Some next → length next ≡ open_after (length arms) i
depth_after [] next i e = absurd cc
depth_after (arm ∷ arms) next (instr.Block t) e = let is = room_is false (arm ∷ arms) next e in ap (λ (l : List Bool). length l) is ∙ omega arith
depth_after (arm ∷ arms) next (instr.Loop t) e = let is = room_is false (arm ∷ arms) next e in ap (λ (l : List Bool). length l) is ∙ omega arith
depth_after (arm ∷ arms) next (instr.If t) e = let is = room_is true (arm ∷ arms) next e in ap (λ (l : List Bool). length l) is ∙ omega arith
depth_after (true ∷ arms) next instr.Else e = ap (λ (l : List Bool). length l) (sym (some_is _ _ e))
depth_after (false ∷ arms) next instr.Else e = absurd cc
depth_after (arm ∷ arms) next instr.End e = ap (λ (l : List Bool). length l) (sym (some_is _ _ e)) ∙ omega arith
depth_after (arm ∷ arms) next _ e = ap (λ (l : List Bool). length l) (sym (some_is _ _ e))

with_next : (code : List Instr) (k : ℕ) (i : Instr) → slice_get code k ≡ Some i → take (k + 1) code ≡ take k code ++ i ∷ []
with_next code k i e = take_more code k i (slice_get_within code k i e) ∙ ap (λ (x : Instr). take k code ++ x ∷ []) (get_or_from_slice_get code k i i e)

step_to : (code : List Instr) (k : ℕ) (i : Instr) (next : List Bool) → slice_get code k ≡ Some i → IsOpen (take (k + 1) code) next → (arms : List Bool) × IsOpen (take k code) arms × (after_instruction arms i ≡ Some next)
step_to code k i next e h =
    let whole : option_and_then (λ a. after_code a (i ∷ [])) (after_code at_begin (take k code)) ≡ Some next =
    sym (ap (after_code at_begin) (with_next code k i e) ∙ after_append at_begin (take k code) (i ∷ [])) ∙ h in
    let s = then_some (after_code at_begin (take k code)) (λ a. after_code a (i ∷ [])) next whole in
    let t = then_some (after_instruction s.0 i) (λ n. after_code n []) next s.2 in
    (s.0, s.1, t.1 ∙ t.2)

-- one instruction more
pub counted_more : (code : List Instr) (k : ℕ) (i : Instr) (count : ℕ) → slice_get code k ≡ Some i → ((arms : List Bool) → IsOpen (take k code) arms → length arms ≡ count)
    → (arms : List Bool) → IsOpen (take (k + 1) code) arms → length arms ≡ open_after count i
counted_more code k i count e h arms o =
    let s = step_to code k i arms e o in
    depth_after s.0 arms i s.2 ∙ ap (λ (n : ℕ). open_after n i) (h s.0 s.1)

pub counted_first : (code : List Instr) (arms : List Bool) → IsOpen (take 0 code) arms → length arms ≡ 1
counted_first code arms h = ap (λ (l : List Bool). length l) (sym (some_is _ _ h))

last : (place k : ℕ) → place < k + 1 → (place < k) ⊎ (place ≡ k)
last place k lt = grind arith

abbrev pub AreThere : Space → List Instr → ℕ → Type 0
AreThere space code k = (place : ℕ) (i : Instr) (arms : List Bool) → place < k → slice_get code place ≡ Some i → IsOpen (take place code) arms → IsThere (counts_of space (length arms)) i

pub there_more : (space : Space) (code : List Instr) (k : ℕ) (i : Instr) (count : ℕ) → slice_get code k ≡ Some i → ((arms : List Bool) → IsOpen (take k code) arms → length arms ≡ count) → IsThere (counts_of space count) i
    → AreThere space code k → AreThere space code (k + 1)
there_more space code k i count e counted is h place j arms lt ej o =
    elim (last place k lt) [
      | inl l ↦ h place j arms l ej o
      | inr same ↦
          let here : slice_get code k ≡ Some j = sym (ap (λ (n : ℕ). slice_get code n) same) ∙ ej in
          let ij : i ≡ j = some_is i j (sym e ∙ here) in
          let n : length arms ≡ count = counted arms (subst (λ (n : ℕ). IsOpen (take n code) arms) same o) in
          subst (λ (x : Instr). IsThere (counts_of space (length arms)) x) ij (subst (λ (m : ℕ). IsThere (counts_of space m) i) (sym n) is)
    ]

-- a closed code leaves sequences open wherever it is cut
pub open_at : (code : List Instr) (k : ℕ) → IsClosed code → (arms : List Bool) × IsOpen (take k code) arms
open_at code k h =
    let whole : option_and_then (λ a. after_code a (drop k code)) (after_code at_begin (take k code)) ≡ Some [] =
    sym (ap (after_code at_begin) (sym (take-append-drop k code)) ∙ after_append at_begin (take k code) (drop k code)) ∙ h in
    let s = then_some (after_code at_begin (take k code)) (λ a. after_code a (drop k code)) [] whole in
    (s.0, s.1)

pub lacks_here : (space : Space) (code : List Instr) (k : ℕ) (i : Instr) (count : ℕ) → IsClosed code → slice_get code k ≡ Some i → ((arms : List Bool) → IsOpen (take k code) arms → length arms ≡ count) → (IsThere (counts_of space count) i → ⊥)
    → ((place : ℕ) (i : Instr) (arms : List Bool) → slice_get code place ≡ Some i → IsOpen (take place code) arms → IsThere (counts_of space (length arms)) i) → ⊥
lacks_here space code k i count closed e counted lacks all =
    let o = open_at code k closed in
    lacks (subst (λ (n : ℕ). IsThere (counts_of space n) i) (counted o.0 o.1) (all k i o.0 e o.1))

pub at_item : (code : List Instr) (k : ℕ) (i : Instr) → k < length code → i ≡ get_or code k i → slice_get code k ≡ Some i
at_item code k i lt e = slice_get-get_or code k i lt ∙ ap (λ (x : Instr). Some x) (sym e)

grows : (count : ℕ) (i : Instr) → open_after count i ≤ count + 1
grows count (instr.Block t) = omega arith
grows count (instr.Loop t) = omega arith
grows count (instr.If t) = omega arith
grows count instr.End = omega arith
grows count _ = omega arith

pub few_more : (held k : ℕ) (i : Instr) (next : ℕ) → next ≡ open_after held i → held ≤ k + 1 → next ≤ (k + 1) + 1
few_more held k i next e le = let g = grows held i in omega arith
