-- When custom sections are in order.
use Rattle.std.proofs.Common.{◌≡◌, ℕ, ◌+◌, ◌<◌, Bool, true, false, not, List, [], ◌∷◌, ◌++◌, length, get_or, drop, All, refl, sym, ap, subst, ◌∙◌, ◌⊎◌, inl, inr, arith}
use Rattle.std.specs.Prelude.{◌↔◌, filter}
use Rattle.std.proofs.lemmas.Bool.{cases_Bool}
use Rattle.std.proofs.lemmas.List.{drop_more}
use Rattle.std.proofs.lemmas.List.Elements.{filter_passes}
use Rattle.wasm_tree.specs.declared.module.Custom.{Custom}
use Rattle.wasm_tree.specs.Spelled.{is_cmajor, sorted_customs}

abbrev pub named : Custom → Bool
named custom = is_cmajor custom.name

abbrev others : List Custom → List Custom
others customs = filter (λ custom. not (named custom)) customs

-- what has to hold of the custom sections that are left, where the one before is named `cmajor` or not
abbrev pub Goes : Bool → List Custom → Type 0
Goes false customs = customs ≡ sorted_customs customs
Goes true customs = others customs ≡ []

-- where no other is left, all are named
all_named : (customs : List Custom) → others customs ≡ [] → filter named customs ≡ customs
all_named [] h = refl
all_named (x ∷ xs) h =
    elim (cases_Bool (named x)) [
      | inl e ↦ rw e (ap (λ (ys : List Custom). x ∷ ys) (all_named xs (rw e at h)))
      | inr e ↦ let more : x ∷ others xs ≡ [] = rw e at h in absurd (cc more)
    ]

-- a named one that stands first stands before no other
none_before : (x : Custom) (xs front back : List Custom) → named x ≡ true → All (λ custom. not (named custom) ≡ true) front → x ∷ xs ≡ front ++ back → front ≡ []
none_before x xs [] back e apart same = refl
none_before x xs (y ∷ ys) back e apart same =
    let first : x ≡ y = cc same in
    let other : not (named y) ≡ true = apart 0 y (omega arith) in
    let both : not true ≡ true = ap not (sym e ∙ ap named first) ∙ other in
    absurd (cc both)

goes_named : (last : Bool) (x : Custom) (xs : List Custom) → named x ≡ true → Goes last (x ∷ xs) ↔ Goes true xs
goes_named true x xs e = rw e ((λ h. h), (λ h. h))
goes_named false x xs e =
    rw e (
      (λ h. none_before x xs (others xs) (x ∷ filter named xs) e (filter_passes (λ custom. not (named custom)) xs) h),
      (λ h. rw h (ap (λ (ys : List Custom). x ∷ ys) (sym (all_named xs h)))),
    )

goes_other : (x : Custom) (xs : List Custom) → named x ≡ false → Goes false (x ∷ xs) ↔ Goes false xs
goes_other x xs e = rw e ((λ h. cc h), (λ h. ap (λ (ys : List Custom). x ∷ ys) h))

goes_on : (last now : Bool) (x : Custom) (xs : List Custom) → named x ≡ now → (last ≡ false) ⊎ (now ≡ true) → Goes last (x ∷ xs) ↔ Goes now xs
goes_on last true x xs e h = goes_named last x xs e
goes_on false false x xs e h = goes_other x xs e
goes_on true false x xs e (inl h) = absurd cc
goes_on true false x xs e (inr h) = absurd cc

-- a loop's turn
pub sorted_more : (P : Type 0) (customs : List Custom) (i : ℕ) (x : Custom) (last now : Bool) → i < length customs → x ≡ get_or customs i x → now ≡ named x → (last ≡ false) ⊎ (now ≡ true) → P ↔ Goes last (drop i customs) → P ↔ Goes now (drop (i + 1) customs)
sorted_more P customs i x last now lt is e h before =
    let first : drop i customs ≡ x ∷ drop (i + 1) customs = drop_more customs i x lt ∙ ap (λ (y : Custom). y ∷ drop (i + 1) customs) (sym is) in
    let turn = goes_on last now x (drop (i + 1) customs) (sym e) h in
    let Q : List Custom → Type 0 = λ xs. P ↔ Goes last xs in
    let here : P ↔ Goes last (x ∷ drop (i + 1) customs) = subst Q first before in
    ((λ p. turn.0 (here.0 p)), (λ q. here.1 (turn.1 q)))
