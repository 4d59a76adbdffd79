-- Places that come one before another, and those of some tokens.
use Rattle.std.proofs.Common.{◌≡◌, ℕ, zero, suc, ◌+◌, ◌<◌, ◌≤◌, true, List, [], ◌∷◌, ◌++◌, Some, sym, subst, arith, inl, inr}
use Rattle.std.specs.Prelude.{slice_get}
use Rattle.std.proofs.lemmas.Bool.{eq-eqb, ne_eqb, lt-ltb}
use Rattle.cm_base.specs.declared.place.Place.{Place}
use Rattle.token_places.specs.Rising.{IsBefore}
use Rattle.path_names.specs.Rising.{comes_before}

-- ---- two places

pub in_one_file : (p q : Place) → IsBefore p q → comes_before p q ≡ true
in_one_file p q (e, inl h) = rw (eq-eqb p.file q.file e, ne_eqb p.line q.line (λ same. omega (arith, h, same))) (lt-ltb p.line q.line h)
in_one_file p q (e, inr (f, h)) = rw (eq-eqb p.file q.file e, eq-eqb p.line q.line f) (lt-ltb p.column q.column h)

pub in_two_files : (p q : Place) → p.file < q.file → comes_before p q ≡ true
in_two_files p q h = rw (ne_eqb p.file q.file (λ same. omega (arith, h, same))) (lt-ltb p.file q.file h)

-- ---- places one behind another

abbrev pub Behind : Place → List Place → Type 0
Behind p [] = Unit {0}
Behind p (q ∷ places) = (comes_before p q ≡ true) × Behind p places

abbrev pub Rise : List Place → Type 0
Rise [] = Unit {0}
Rise (p ∷ places) = Behind p places × Rise places

-- all stand in this file, or in this one and later ones
abbrev pub Within : ℕ → List Place → Type 0
Within file [] = Unit {0}
Within file (p ∷ places) = (p.file ≡ file) × Within file places

abbrev pub From : ℕ → List Place → Type 0
From file [] = Unit {0}
From file (p ∷ places) = (file ≤ p.file) × From file places

pub from_both : (file : ℕ) (front places : List Place) → Within file front → From (file + 1) places → From file (front ++ places)
from_both file [] [] h k = tt
from_both file [] (p ∷ places) h k = (omega (arith, k.0), from_both file [] places tt k.1)
from_both file (p ∷ front) places h k = (omega (arith, h.0), from_both file front places h.1 k)

later : (p : Place) (places : List Place) → From (p.file + 1) places → Behind p places
later p [] k = tt
later p (q ∷ places) k = (in_two_files p q (omega (arith, k.0)), later p places k.1)

behind_both : (p : Place) (front places : List Place) → Behind p front → Behind p places → Behind p (front ++ places)
behind_both p [] places h k = k
behind_both p (q ∷ front) places h k = (h.0, behind_both p front places h.1 k)

pub rise_both : (file : ℕ) (front places : List Place) → Rise front → Within file front → Rise places → From (file + 1) places → Rise (front ++ places)
rise_both file [] places h w k from = k
rise_both file (p ∷ front) places h w k from =
    (behind_both p front places h.0 (later p places (subst (λ n. From (n + 1) places) (sym w.0) from)), rise_both file front places h.1 w.1 k from)

-- ---- by numbers

behind_at : (p : Place) (places : List Place) → Behind p places → (j : ℕ) (q : Place) → slice_get places j ≡ Some q → comes_before p q ≡ true
behind_at p [] h j q at = absurd (cc (at))
behind_at p (x ∷ places) h zero q at = let same : x ≡ q = cc (at) in subst (λ z. comes_before p z ≡ true) same h.0
behind_at p (x ∷ places) h (suc j) q at = behind_at p places h.1 j q at

pub rise_at : (places : List Place) → Rise places → (i j : ℕ) (p q : Place) → i < j → slice_get places i ≡ Some p → slice_get places j ≡ Some q → comes_before p q ≡ true
rise_at [] h i j p q below first second = absurd (cc (first))
rise_at (x ∷ places) h i zero p q below first second = absurd (omega (arith, below))
rise_at (x ∷ places) h zero (suc j) p q below first second =
    let same : x ≡ p = cc (first) in subst (λ z. comes_before z q ≡ true) same (behind_at x places h.0 j q second)
rise_at (x ∷ places) h (suc i) (suc j) p q below first second = rise_at places h.1 i j p q (omega (arith, below)) first second
