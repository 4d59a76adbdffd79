-- Words that are kept apart one after the other: what the answers of parts say of the whole.
use Rattle.std.specs.Prelude.{◌≡◌, refl, ℕ, suc, ◌+◌, ◌<◌, Bool, true, false, not, List, [], ◌∷◌, ◌++◌, length, take, drop, flat_map, Result, Ok, Err, bytes_eq}
use Rattle.std.specs.List.{list_any}
use Rattle.std.proofs.Common.{ap, sym, ◌∙◌, subst, arith, get_or, inl}
use Rattle.std.proofs.Math.Seq.{take-suc, take-length}
use Rattle.std.proofs.lemmas.List.{append-nil, append_assoc, take-append-drop}
use Rattle.std.proofs.lemmas.Grind.{flat_map-append}
use Rattle.cm_base.specs.declared.cause.Cause.TheVariants as cause
use Rattle.cm_base.specs.declared.place.Place.{Place}
use Rattle.cm_base.specs.declared.failure.Fail.{Fail}
use Rattle.cm_base.specs.declared.failure.Fail.TheVariants as fail
use Rattle.cm_base.specs.declared.failure.Refused.{Refused}
use Rattle.cm_tree.specs.declared.path.Word.{Word}
use Rattle.cm_meaning.specs.Faults.{fault, unless}
use Rattle.cm_meaning.specs.Exact.{In, in_left, in_right}
use Rattle.name_scopes.specs.Numbers.{added}
use Rattle.name_scopes.specs.Apart.{again, seen_after, KeepsApart}

again-append : (seen : List (List ℕ)) (xs ys : List Word) → again seen (xs ++ ys) ≡ again seen xs ++ again (seen_after seen xs) ys
unfolding again seen_after
again-append seen [] ys = refl
again-append seen (w ∷ xs) ys =
    ap (λ z. unless (not (list_any (bytes_eq w.text) seen)) cause.DuplicateName w.place ++ z) (again-append (added seen w.text) xs ys)
    ∙ sym (append_assoc (unless (not (list_any (bytes_eq w.text) seen)) cause.DuplicateName w.place) (again (added seen w.text) xs) (again (seen_after (added seen w.text) xs) ys))

seen-append : (seen : List (List ℕ)) (xs ys : List Word) → seen_after seen (xs ++ ys) ≡ seen_after (seen_after seen xs) ys
unfolding seen_after
seen-append seen [] ys = refl
seen-append seen (w ∷ xs) ys = seen-append (added seen w.text) xs ys

pub keeps-nil : (a b : List (List ℕ)) → b ≡ a → KeepsApart a [] (Ok tt) b
unfolding again seen_after
keeps-nil a b is = (refl, is)

pub keeps-none : (a b : List (List ℕ)) (words : List Word) → words ≡ [] → b ≡ a → KeepsApart a words (Ok tt) b
keeps-none a b words none is = subst (λ z. KeepsApart a z (Ok tt) b) (sym none) (keeps-nil a b is)

-- some words, and then others
pub keeps-then : (a b c : List (List ℕ)) (xs ys : List Word) (r : Result (Unit {0}) Fail) → KeepsApart a xs (Ok tt) b → KeepsApart b ys r c → KeepsApart a (xs ++ ys) r c
keeps-then a b c xs ys (Ok done) h g =
    (again-append a xs ys ∙ ap (λ z. z ++ again (seen_after a xs) ys) h.0 ∙ ap (λ z. again z ys) (sym h.1) ∙ g.0, g.1 ∙ ap (λ z. seen_after z ys) h.1 ∙ sym (seen-append a xs ys))
keeps-then a b c xs ys (Err (fail.Refused f)) h g =
    subst (In (fault f.cause f.place)) (sym (again-append a xs ys)) (in_right (fault f.cause f.place) (again a xs) (again (seen_after a xs) ys)
    (subst (λ z. In (fault f.cause f.place) (again z ys)) h.1 g))
keeps-then a b c xs ys (Err fail.NoMemory) h g = tt

-- a refusal among some words is one of more words
pub keeps-more : (a b c : List (List ℕ)) (xs ys : List Word) (e : Fail) → KeepsApart a xs (Err e) b → KeepsApart a (xs ++ ys) (Err e) c
keeps-more a b c xs ys (fail.Refused f) h = subst (In (fault f.cause f.place)) (sym (again-append a xs ys)) (in_left (fault f.cause f.place) (again a xs) (again (seen_after a xs) ys) h)
keeps-more a b c xs ys fail.NoMemory h = tt

-- ---- a word

abbrev word : Place → List ℕ → Word
word place text = record { place = place; text = text }

pub keeps-new : (a b : List (List ℕ)) (w : Word) (is_new : Bool) → is_new ≡ true → is_new ≡ not (list_any (bytes_eq w.text) a) → b ≡ added a w.text
    → KeepsApart a (w ∷ []) (Ok tt) b
unfolding again seen_after
keeps-new a b w is_new so was grown = (ap (λ z. unless z cause.DuplicateName w.place ++ []) (sym was ∙ so), grown)

pub keeps-old : (a b : List (List ℕ)) (w : Word) (is_new : Bool) (f : Refused) → is_new ≡ false → is_new ≡ not (list_any (bytes_eq w.text) a)
    → fault f.cause f.place ≡ fault cause.DuplicateName w.place → KeepsApart a (w ∷ []) (Err (fail.Refused f)) b
unfolding again
keeps-old a b w is_new f so was is = subst (λ z. In (fault f.cause f.place) (unless z cause.DuplicateName w.place ++ [])) (sym so ∙ was) (inl is)

-- ---- the words of each part in turn

take-more : {A : Type 0} (xs : List A) (i : ℕ) (x : A) → i < length xs → x ≡ get_or xs i x → take (i + 1) xs ≡ take i xs ++ x ∷ []
take-more xs i x within is = ap (λ n. take n xs) (one i) ∙ take-suc xs i x within ∙ ap (λ y. take i xs ++ y ∷ []) (sym is) where
  one : (i : ℕ) → i + 1 ≡ suc i
  one i = omega arith

words-more : {A : Type 0} (f : A → List Word) (xs : List A) (i : ℕ) (x : A) → i < length xs → x ≡ get_or xs i x
    → flat_map f (take i xs) ++ f x ≡ flat_map f (take (i + 1) xs)
words-more f xs i x within is = sym (ap (flat_map f) (take-more xs i x within is) ∙ flat_map-append f (take i xs) (x ∷ []) ∙ ap (λ z. flat_map f (take i xs) ++ z) (append-nil (f x)))

pub keeps-next : {A : Type 0} (f : A → List Word) (xs : List A) (i : ℕ) (x : A) (a b c : List (List ℕ)) → i < length xs → x ≡ get_or xs i x
    → KeepsApart a (flat_map f (take i xs)) (Ok tt) b → KeepsApart b (f x) (Ok tt) c → KeepsApart a (flat_map f (take (i + 1) xs)) (Ok tt) c
keeps-next f xs i x a b c within is h g = subst (λ z. KeepsApart a z (Ok tt) c) (words-more f xs i x within is) (keeps-then a b c (flat_map f (take i xs)) (f x) (Ok tt) h g)

-- a refusal at one part is one of the whole
pub keeps-stop : {A : Type 0} (f : A → List Word) (xs : List A) (i : ℕ) (x : A) (a b c d : List (List ℕ)) (e : Fail) → i < length xs → x ≡ get_or xs i x
    → KeepsApart a (flat_map f (take i xs)) (Ok tt) b → KeepsApart b (f x) (Err e) c → KeepsApart a (flat_map f xs) (Err e) d
keeps-stop {A = A} f xs i x a b c d e within is h g = subst (λ z. KeepsApart a z (Err e) d) (whole xs i)
    (keeps-more a c d (flat_map f (take (i + 1) xs)) (flat_map f (drop (i + 1) xs)) e
    (subst (λ z. KeepsApart a z (Err e) c) (words-more f xs i x within is) (keeps-then a b c (flat_map f (take i xs)) (f x) (Err e) h g)))
  where
    whole : (xs : List A) (i : ℕ) → flat_map f (take (i + 1) xs) ++ flat_map f (drop (i + 1) xs) ≡ flat_map f xs
    whole xs i = sym (flat_map-append f (take (i + 1) xs) (drop (i + 1) xs)) ∙ ap (flat_map f) (take-append-drop (i + 1) xs)

pub keeps-start : {A : Type 0} (f : A → List Word) (xs : List A) (a : List (List ℕ)) → KeepsApart a (flat_map f (take 0 xs)) (Ok tt) a
keeps-start f xs a = keeps-nil a a refl

pub keeps-all : {A : Type 0} (f : A → List Word) (xs : List A) (i : ℕ) (a b : List (List ℕ)) → i ≡ length xs
    → KeepsApart a (flat_map f (take i xs)) (Ok tt) b → KeepsApart a (flat_map f xs) (Ok tt) b
keeps-all f xs i a b all h = subst (λ z. KeepsApart a (flat_map f z) (Ok tt) b) (ap (λ n. take n xs) all ∙ take-length xs) h

-- the same answer, of equal lists
pub keeps-at : {A : Type 0} (f : A → List Word) (a b new : List (List ℕ)) (xs ys : List A) (r : Result (Unit {0}) Fail) → a ≡ b → xs ≡ ys
    → KeepsApart a (flat_map f xs) r new → KeepsApart b (flat_map f ys) r new
keeps-at f a b new xs ys r e i h = subst (λ z. KeepsApart z (flat_map f ys) r new) e (subst (λ z. KeepsApart a (flat_map f z) r new) i h)
