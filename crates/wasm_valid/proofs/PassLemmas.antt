-- The pass over code, one instruction after another.
use Rattle.std.proofs.Common.{◌≡◌, ◌≤◌, ◌<◌, ◌+◌, ℕ, suc, List, [], ◌∷◌, length, get_or, drop, Option, Some, None, refl, sym, ap, ◌∙◌, subst, arith, drop-cons, add-one}
use Rattle.std.specs.Prelude.{IfSome}
use Rattle.std.specs.Option.{option_and_then}
use Rattle.std.proofs.lemmas.List.{drop_all}
use Rattle.wasm_tree.specs.declared.module.ValType.{ValType}
use Rattle.wasm_tree.specs.declared.instr.Instr.{Instr}
use Rattle.wasm_tree.specs.Typed.{Context}
use Rattle.wasm_valid.specs.Checking.{Sequence, after_one, after_all, IsRoomy, Stays}

rest_is : (code : List Instr) (k : ℕ) (i : Instr) → k < length code → i ≡ get_or code k i → drop k code ≡ i ∷ drop (k + 1) code
rest_is code k i lt e =
    drop-cons code k i lt ∙ (ap (λ (x : Instr). x ∷ drop (suc k) code) (sym e) ∙ ap (λ (n : ℕ). i ∷ drop n code) (sym (add-one k)))

module _ (c : Context) (r : Option ValType) where
  one_step : (ss next : List Sequence) (i : Instr) (rest : List Instr) → after_one c r ss i ≡ Some next → after_all c r ss (i ∷ rest) ≡ after_all c r next rest
  unfolding after_all
  one_step ss next i rest e = ap (option_and_then (λ next. after_all c r next rest)) e

  pub goes_on : (ss next : List Sequence) (code : List Instr) (k : ℕ) (i : Instr) (whole : Option (List Sequence)) → k < length code → i ≡ get_or code k i → after_one c r ss i ≡ Some next
      → after_all c r ss (drop k code) ≡ whole → after_all c r next (drop (k + 1) code) ≡ whole
  goes_on ss next code k i whole lt e step same = sym (one_step ss next i (drop (k + 1) code) step) ∙ (sym (ap (after_all c r ss) (rest_is code k i lt e)) ∙ same)

  fails_step : (ss : List Sequence) (i : Instr) (rest : List Instr) → after_one c r ss i ≡ None → after_all c r ss (i ∷ rest) ≡ None
  unfolding after_all
  fails_step ss i rest e = ap (option_and_then (λ next. after_all c r next rest)) e

  pub fails : (ss : List Sequence) (code : List Instr) (k : ℕ) (i : Instr) (whole : Option (List Sequence)) → k < length code → i ≡ get_or code k i → after_one c r ss i ≡ None → after_all c r ss (drop k code) ≡ whole → whole ≡ Some [] → ⊥
  fails ss code k i whole lt e step same w =
      let none : after_all c r ss (drop k code) ≡ None = ap (after_all c r ss) (rest_is code k i lt e) ∙ fails_step ss i (drop (k + 1) code) step in
      absurd (cc (sym none ∙ (same ∙ w)))

  pub ended_early : (ss : List Sequence) (code : List Instr) (k : ℕ) (i : Instr) (whole : Option (List Sequence)) → k < length code → i ≡ get_or code k i → ss ≡ [] → after_all c r ss (drop k code) ≡ whole → whole ≡ Some [] → ⊥
  ended_early ss code k i whole lt e none same w =
      let step : after_one c r ss i ≡ None = ap (λ l. after_one c r l i) none in
      fails ss code k i whole lt e step same w

  last : (ss : List Sequence) → after_all c r ss [] ≡ Some ss
  unfolding after_all
  last ss = refl

  pub ends_with : (ss : List Sequence) (code : List Instr) (k : ℕ) (whole : Option (List Sequence)) → length code ≤ k → after_all c r ss (drop k code) ≡ whole → whole ≡ Some ss
  ends_with ss code k whole le same = sym same ∙ (ap (after_all c r ss) (drop_all k code le) ∙ last ss)

  -- what is held
  abbrev pub StaysBelow : List Sequence → List Instr → ℕ → ℕ → List Instr → List Sequence → Type 0
  StaysBelow ss rest cells marks code first = (more deep : ℕ) → cells ≤ more → marks ≤ deep → Stays c r more deep ss rest → Stays c r more deep first code

  pub stays_on : (ss next first : List Sequence) (code : List Instr) (k : ℕ) (i : Instr) (cells marks cells_next marks_next : ℕ) → k < length code → i ≡ get_or code k i → after_one c r ss i ≡ Some next → IsRoomy cells marks ss
      → cells ≤ cells_next → marks ≤ marks_next → StaysBelow ss (drop k code) cells marks code first → StaysBelow next (drop (k + 1) code) cells_next marks_next code first
  stays_on ss next first code k i cells marks h d lt e step room lh ld below more deep le lm stays =
      let some : IfSome (after_one c r ss i) (λ next. Stays c r more deep next (drop (k + 1) code)) = subst (λ o. IfSome o (λ next. Stays c r more deep next (drop (k + 1) code))) (sym step) stays in
      let here : Stays c r more deep ss (i ∷ drop (k + 1) code) = ((omega (arith, room.0), omega (arith, room.1)), some) in
      below more deep (omega arith) (omega arith) (subst (λ l. Stays c r more deep ss l) (sym (rest_is code k i lt e)) here)

  pub stays_first : (first : List Sequence) (code : List Instr) (cells marks : ℕ) → StaysBelow first (drop 0 code) cells marks code first
  stays_first first code cells marks more deep le ld stays = stays

  pub stays_last : (ss first : List Sequence) (code : List Instr) (k cells marks : ℕ) → length code ≤ k → IsRoomy cells marks ss → StaysBelow ss (drop k code) cells marks code first → Stays c r cells marks first code
  stays_last ss first code k cells marks le room below =
      below cells marks (omega arith) (omega arith) (subst (λ l. Stays c r cells marks ss l) (sym (drop_all k code le)) room)
