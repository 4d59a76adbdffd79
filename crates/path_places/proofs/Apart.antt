-- Declarations of a patch that was read are told apart by the places of their words, but for namespaces.
use Rattle.std.proofs.Common.{◌≡◌, ℕ, zero, suc, ◌+◌, ◌≤◌, Bool, true, false, List, [], ◌∷◌, Some, refl, sym, ◌∙◌, ap, subst, true≢false, arith}
use Rattle.std.specs.Prelude.{◌&&◌, not, flat_map, slice_get, nat_eq}
use Rattle.std.proofs.lemmas.Bool.{eqb-true, eq-eqb, ltb-true}
use Rattle.cm_base.specs.declared.place.Place.{Place}
use Rattle.cm_tree.specs.declared.token.Token.{Token}
use Rattle.cm_tree.specs.declared.file.File.{File}
use Rattle.cm_meaning.specs.Declared.{Declared, is_namespace}
use Rattle.cm_meaning.specs.Types.{is_place}
use Rattle.cm_meaning.specs.Scopes.{decl_names, patch_names}
use Rattle.cm_meaning.specs.PatchSites.{site_names, file_sites, patch_sites, all_names}
use Rattle.path_names.specs.Rising.{comes_before}
use Rattle.path_places.specs.Rising.{AreRead, AreReadFrom}
use Rattle.path_places.specs.Apart.{WordsApart}
use Rattle.path_places.proofs.Places.{Behind, Rise}
use Rattle.path_places.proofs.Files.{places_of, all_tokens, all_rise}
use Rattle.path_places.proofs.Fits.{Fits, weight, weight-append, one, kinds, is_other, is_space_at, others_at, spaces_at, tokens_at, nothing, together}
use Rattle.path_places.proofs.DeclWords.{fits_file}

-- ---- places

both_true : (a b : Bool) → a && b ≡ true → (a ≡ true) × (b ≡ true)
both_true true true e = (refl, refl)
both_true true false e = absurd (true≢false (sym e))
both_true false b e = absurd (true≢false (sym e))

same_place : (p : Place) → is_place p p ≡ true
same_place p = rw (eq-eqb p.file p.file refl, eq-eqb p.line p.line refl, eq-eqb p.column p.column refl) refl

is_same : (p q : Place) → is_place p q ≡ true → p ≡ q
is_same p q e = by (both_true (nat_eq p.file q.file) (nat_eq p.line q.line && nat_eq p.column q.column) e) where
  by : (nat_eq p.file q.file ≡ true) × (nat_eq p.line q.line && nat_eq p.column q.column ≡ true) → p ≡ q
  by (f, more) = let h = both_true (nat_eq p.line q.line) (nat_eq p.column q.column) more in
      let files = eqb-true p.file q.file f in let lines = eqb-true p.line q.line h.0 in let columns = eqb-true p.column q.column h.1 in
      ap (λ z. record { file = z; line = p.line; column = p.column }) files ∙ ap (λ z. record { file = q.file; line = z; column = p.column }) lines
      ∙ ap (λ z. record { file = q.file; line = q.line; column = z }) columns

-- no place comes before itself
not_itself : (p : Place) → comes_before p p ≡ true → ⊥
not_itself p h = let lt = ltb-true p.column p.column (rw (eq-eqb p.file p.file refl, eq-eqb p.line p.line refl) at h) in omega (arith, lt)

elsewhere : (p q : Place) → comes_before p q ≡ true → is_place p q ≡ false
elsewhere p q h = by (is_place p q) refl where
  by : (b : Bool) → is_place p q ≡ b → is_place p q ≡ false
  by false e = e
  by true e = absurd (not_itself p (subst (λ z. comes_before p z ≡ true) (sym (is_same p q e)) h))

-- ---- at most one token at a place

none_behind : (p : Place) (tokens : List Token) → Behind p (places_of tokens) → tokens_at p tokens ≡ 0
unfolding tokens_at
none_behind p [] h = refl
none_behind p (t ∷ tokens) h = let k = none_behind p tokens h.1 in let e : one (is_place p t.place) ≡ 0 = ap one (elsewhere p t.place h.0) in omega arith

one_at_most : (p : Place) (tokens : List Token) → Rise (places_of tokens) → tokens_at p tokens ≤ 1
unfolding tokens_at
one_at_most p [] h = omega arith
one_at_most p (t ∷ tokens) h = by (is_place p t.place) refl (one_at_most p tokens h.1) where
  by : (b : Bool) → is_place p t.place ≡ b → tokens_at p tokens ≤ 1 → one (is_place p t.place) + tokens_at p tokens ≤ 1
  by false e k = let f : one (is_place p t.place) ≡ 0 = ap one e in omega arith
  by true e k = let l = none_behind p tokens (subst (λ z. Behind z (places_of tokens)) (sym (is_same p t.place e)) h.0) in
      let f : one (is_place p t.place) ≡ 1 = ap one e in omega arith

-- ---- declarations at a place

head_counts : (p : Place) (x : Declared) → p ≡ x.word.place → one (is_other p x) + one (is_space_at p x) ≡ 1
head_counts p x e = kinds (is_place p x.word.place) (is_namespace x.named) ∙ ap one (subst (λ z. is_place p z ≡ true) e (same_place p))

other_counts : (p : Place) (x : Declared) → p ≡ x.word.place → is_namespace x.named ≡ false → one (is_other p x) ≡ 1
other_counts p x e is = ap (λ b. one (is_place p x.word.place && not b)) is ∙ ap (λ b. one (b && true)) (subst (λ z. is_place p z ≡ true) e (same_place p))

some_other : (p : Place) (xs : List Declared) (i : ℕ) (x : Declared) → slice_get xs i ≡ Some x → p ≡ x.word.place → is_namespace x.named ≡ false → 1 ≤ others_at p xs
unfolding others_at
some_other p [] i x at e is = absurd (cc (at))
some_other p (z ∷ zs) zero x at e is =
    let same : z ≡ x = cc (at) in let k : one (is_other p z) ≡ 1 = ap (λ y. one (is_other p y)) same ∙ other_counts p x e is in omega arith
some_other p (z ∷ zs) (suc i) x at e is = let k = some_other p zs i x at e is in omega arith

some_weight : (p : Place) (xs : List Declared) (i : ℕ) (x : Declared) → slice_get xs i ≡ Some x → p ≡ x.word.place → 1 ≤ weight p xs
unfolding others_at spaces_at
some_weight p [] i x at e = absurd (cc (at))
some_weight p (z ∷ zs) zero x at e =
    let same : z ≡ x = cc (at) in let k : one (is_other p z) + one (is_space_at p z) ≡ 1 = ap (λ y. one (is_other p y) + one (is_space_at p y)) same ∙ head_counts p x e in omega arith
some_weight p (z ∷ zs) (suc i) x at e = let k = some_weight p zs i x at e in omega arith

apart : (p : Place) (xs : List Declared) → weight p xs ≤ 1 → (i j : ℕ) (x y : Declared) → slice_get xs i ≡ Some x → slice_get xs j ≡ Some y
    → is_namespace x.named ≡ false → p ≡ x.word.place → p ≡ y.word.place → i ≡ j
unfolding others_at spaces_at
apart p [] few i j x y first second is e f = absurd (cc (first))
apart p (z ∷ zs) few zero zero x y first second is e f = refl
apart p (z ∷ zs) few zero (suc j) x y first second is e f =
    let same : z ≡ x = cc (first) in
    let k : one (is_other p z) ≡ 1 = ap (λ y. one (is_other p y)) same ∙ other_counts p x e is in
    let more = some_weight p zs j y second f in absurd (omega arith)
apart p (z ∷ zs) few (suc i) zero x y first second is e f =
    let same : z ≡ y = cc (second) in
    let k : one (is_other p z) + one (is_space_at p z) ≡ 1 = ap (λ y. one (is_other p y) + one (is_space_at p y)) same ∙ head_counts p y f in
    let more = some_other p zs i x first e is in absurd (omega arith)
apart p (z ∷ zs) few (suc i) (suc j) x y first second is e f =
    let fewer : weight p zs ≤ 1 = omega arith in ap suc (apart p zs fewer i j x y first second is e f)

-- ---- in a patch

fits_files : (names : List Declared) (number : ℕ) (files : List File) (read : AreReadFrom number files)
    → Fits (flat_map (λ (f : File). flat_map (decl_names []) f.decls) files) (flat_map (file_sites names) files) (all_tokens number files read)
unfolding all_tokens
fits_files names number [] read = nothing
fits_files names number (f ∷ files) read = together (fits_file names read.0.spelled) (fits_files names (number + 1) files read.1)

fits_patch : (files : List File) (read : AreRead files) → Fits (patch_names files) (patch_sites files) (all_tokens 1 files read)
unfolding patch_names patch_sites
fits_patch files read = fits_files (patch_names files) 1 files read

few_names : (files : List File) → AreRead files → (p : Place) → weight p (all_names files) ≤ 1
unfolding all_names
few_names files read p =
    let h = (fits_patch files read).each p in
    let k = weight-append p (patch_names files) (flat_map site_names (patch_sites files)) in
    let few = one_at_most p (all_tokens 1 files read) (all_rise 1 files read).0 in omega arith

pub words_apart : WordsApart
words_apart files read = record {
  each = λ i j x y first second is same. apart x.word.place (all_names files) (few_names files read x.word.place) i j x y first second is refl same;
}
