-- Lemmas on files by their names.
use Rattle.std.proofs.Common.{◌≡◌, ◌≢◌, ℕ, suc, ◌+◌, ◌<◌, ◌↔◌, true, false, ◌⊎◌, List, [], ◌∷◌, ◌++◌, length, get_or, take, drop, map, Some, None, refl, sym, ◌∙◌, subst, inl, inr, add-one}
use Rattle.std.proofs.Math.ListN.{set}
use Rattle.std.specs.List.{AllByRecursion}
use Rattle.std.specs.Str.{bytes_eq}
use Rattle.std.proofs.lemmas.Slice.Eq.{bytes_eq-Decides}
use Rattle.std.proofs.lemmas.List.{take-append-drop, take-set, drop-set}
use Rattle.std.proofs.Math.Seq.{drop-cons}
use Rattle.cm_io.specs.Files.{Files, file_at, with_file, HasDistinctNames, SameElsewhere}

-- two names are one, and the test says so, or they differ, and it says that
names_decide : (one other : List ℕ) → ((one ≡ other) × (bytes_eq one other ≡ true)) ⊎ ((one ≢ other) × (bytes_eq one other ≡ false))
names_decide one other =
    elim (bytes_eq one other) as (λ b. bytes_eq one other ≡ b → ((one ≡ other) × (b ≡ true)) ⊎ ((one ≢ other) × (b ≡ false))) [
      | true ↦ λ e. inl ((bytes_eq-Decides one other).0 e, refl)
      | false ↦ λ e. inr ((λ same. cc (e, (bytes_eq-Decides one other).1 same)), refl)
    ] refl

same_name : (name : List ℕ) → bytes_eq name name ≡ true
same_name name = (bytes_eq-Decides name name).1 refl

other_name : (one other : List ℕ) → one ≢ other → bytes_eq one other ≡ false
other_name one other differ = elim (names_decide one other) [ inl h ↦ absurd (differ h.0) | inr h ↦ h.1 ]

-- the written file is there
pub written_file_is_there : (files : Files) (name bytes : List ℕ) → file_at (with_file files name bytes) name ≡ Some bytes
written_file_is_there [] name bytes = rw (same_name name) refl
written_file_is_there (file ∷ files) name bytes = elim (names_decide file.0 name) [
  | inl h ↦ rw (h.1, same_name name) refl
  | inr h ↦ rw (h.1, h.1) (written_file_is_there files name bytes)
]

-- and every other name maps to what it did
pub other_files_stay : (files : Files) (name bytes : List ℕ) → SameElsewhere files (with_file files name bytes) name
other_files_stay [] name bytes other differ = rw (other_name name other (λ e. differ (sym e))) refl
other_files_stay (file ∷ files) name bytes other differ = elim (names_decide file.0 name) [
  | inl h ↦ let apart : name ≢ other = λ e. differ (sym e) in rw (h.1, other_name name other apart, other_name file.0 other (λ e. apart (sym h.0 ∙ e))) refl
  | inr h ↦ rw h.1 (elim (names_decide file.0 other) [
    | inl k ↦ rw k.1 refl
    | inr k ↦ rw k.1 (other_files_stay files name bytes other differ)
  ])
]

-- a name that none has stays one that none has
others_with_file : (files : Files) (name bytes first : List ℕ) → name ≢ first → AllByRecursion (λ other. other ≢ first) (map (λ file. file.0) files) → AllByRecursion (λ other. other ≢ first) (map (λ file. file.0) (with_file files name bytes))
others_with_file [] name bytes first differ all = (differ, tt)
others_with_file (file ∷ files) name bytes first differ all = elim (names_decide file.0 name) [
  | inl h ↦ rw h.1 (differ, all.1)
  | inr h ↦ rw h.1 (all.0, others_with_file files name bytes first differ all.1)
]

-- names stay distinct
pub names_stay_distinct : (files : Files) (name bytes : List ℕ) → HasDistinctNames files → HasDistinctNames (with_file files name bytes)
names_stay_distinct [] name bytes distinct = (tt, tt)
names_stay_distinct (file ∷ files) name bytes distinct = elim (names_decide file.0 name) [
  | inl h ↦ rw h.1 (subst (λ first. AllByRecursion (λ other. other ≢ first) (map (λ file. file.0) files)) h.0 distinct.0, distinct.1)
  | inr h ↦ rw h.1 (others_with_file files name bytes file.0 (λ e. h.0 (sym e)) distinct.0, names_stay_distinct files name bytes distinct.1)
]

-- a name that maps to nothing is none of the names
pub absent_is_other : (files : Files) (name : List ℕ) → file_at files name ≡ None → AllByRecursion (λ other. other ≢ name) (map (λ file. file.0) files)
absent_is_other [] name absent = tt
absent_is_other (file ∷ files) name absent = elim (names_decide file.0 name) [
  | inl h ↦ cc (rw h.1 at absent)
  | inr h ↦ (h.0, absent_is_other files name (rw h.1 at absent))
]

-- and the other way round
pub other_is_absent : (files : Files) (name : List ℕ) → AllByRecursion (λ other. other ≢ name) (map (λ file. file.0) files) → file_at files name ≡ None
other_is_absent [] name all = refl
other_is_absent (file ∷ files) name all = rw (other_name file.0 name all.0) (other_is_absent files name all.1)

cut_at : (files : Files) (at : ℕ) (file : List ℕ × List ℕ) → at < length files → file ≡ get_or files at file → drop at files ≡ file ∷ drop (at + 1) files
cut_at files at file within is = let cut : drop at files ≡ get_or files at file ∷ drop (suc at) files = drop-cons files at file within in rw add-one (cc)

-- the names that are left are distinct where they were so with the next one, if that one comes no more
pub distinct_more : (P : Type 0) (files : Files) (at : ℕ) (file : List ℕ × List ℕ) → at < length files → file ≡ get_or files at file → file_at (drop (at + 1) files) file.0 ≡ None → (HasDistinctNames (drop at files) ↔ P) → HasDistinctNames (drop (at + 1) files) ↔ P
distinct_more P files at file within is absent same =
    let cons : HasDistinctNames (file ∷ drop (at + 1) files) ↔ P = subst (λ left. HasDistinctNames left ↔ P) (cut_at files at file within is) same in
    (λ distinct. cons.0 (absent_is_other (drop (at + 1) files) file.0 absent, distinct), λ all. (cons.1 all).1)

-- a name that comes again is no distinct one
pub distinct_no_more : (P : Type 0) (files : Files) (at : ℕ) (file : List ℕ × List ℕ) → at < length files → file ≡ get_or files at file → file_at (drop (at + 1) files) file.0 ≢ None → (HasDistinctNames (drop at files) ↔ P) → P → ⊥
distinct_no_more P files at file within is found same all =
    let cons : HasDistinctNames (file ∷ drop (at + 1) files) = subst HasDistinctNames (cut_at files at file within is) (same.1 all) in
    found (other_is_absent (drop (at + 1) files) file.0 cons.0)

-- the place of a file is where the written one comes
pub place_found : (files : Files) (name bytes : List ℕ) (at : ℕ) (file : List ℕ × List ℕ) → at < length files → file ≡ get_or files at file → bytes_eq file.0 name ≡ true → with_file files name bytes ≡ take at files ++ with_file (drop at files) name bytes → with_file files name bytes ≡ set files at (name, bytes)
place_found files name bytes at file within is same invariant =
    let cut : drop at files ≡ file ∷ drop (at + 1) files = cut_at files at file within is in
    let here : with_file (drop at files) name bytes ≡ (name, bytes) ∷ drop (at + 1) files = rw cut (rw same refl) in
    let joined : take at (set files at (name, bytes)) ++ drop at (set files at (name, bytes)) ≡ set files at (name, bytes) = take-append-drop at (set files at (name, bytes)) in
    let before : take at (set files at (name, bytes)) ≡ take at files = take-set files at (name, bytes) in
    let behind : drop at (set files at (name, bytes)) ≡ (name, bytes) ∷ drop (at + 1) files = drop-set files at (name, bytes) within in
    cc
