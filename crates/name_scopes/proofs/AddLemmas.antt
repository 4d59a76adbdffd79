-- Declarations that are added one after the other: what the answers of parts say of the whole.
use Rattle.std.specs.Prelude.{◌≡◌, refl, ℕ, suc, ◌+◌, ◌<◌, Bool, true, false, not, List, [], ◌∷◌, ◌++◌, length, map, take, drop, flat_map, Option, Some, None, Result, Ok, Err, slice_get, slice_index_or}
use Rattle.std.specs.List.{list_any}
use Rattle.std.proofs.Common.{ap, sym, ◌∙◌, subst, arith, get_or, inl}
use Rattle.std.proofs.Math.Seq.{take-suc, take-length}
use Rattle.std.proofs.lemmas.List.{append-nil, append_assoc, take-append-drop, get_or_append_left, length-append, map-append}
use Rattle.std.proofs.lemmas.Grind.{flat_map-append}
use Rattle.cm_base.specs.declared.cause.Cause.TheVariants as cause
use Rattle.cm_base.specs.declared.place.Place.{Place}
use Rattle.cm_base.specs.declared.failure.Fail.{Fail}
use Rattle.cm_base.specs.declared.failure.Fail.TheVariants as fail
use Rattle.cm_base.specs.declared.failure.Refused.{Refused}
use Rattle.cm_meaning.specs.Declared.{Space, Declared}
use Rattle.cm_meaning.specs.NameFaults.{clashes}
use Rattle.cm_meaning.specs.Faults.{fault, unless}
use Rattle.cm_meaning.specs.Exact.{In, in_left, in_right}
use Rattle.name_scopes.specs.declared.named.Member.{Member}
use Rattle.name_scopes.specs.Members.{Known, names_of, declared_in, clashes_behind, IsLonger, Added, Adds}

-- ---- namespaces keep their numbers

pub longer-same : (a b : List Space) → b ≡ a → IsLonger a b
longer-same a b is = record { more = []; is = is ∙ sym (append-nil a) }

longer-then : (a b c : List Space) → IsLonger a b → IsLonger b c → IsLonger a c
longer-then a b c h g = record { more = h.more ++ g.more; is = g.is ∙ ap (λ z. z ++ g.more) h.is ∙ append_assoc a h.more g.more }

pub longer-at : (a b : List Space) (n : ℕ) → IsLonger a b → n < length a → slice_index_or b n [] ≡ slice_index_or a n []
longer-at a b n h below = ap (λ z. slice_index_or z n []) h.is ∙ get_or_append_left a h.more [] n below

pub longer-below : (a b : List Space) (n : ℕ) → IsLonger a b → n < length a → n < length b
longer-below a b n h below = let l : length b ≡ length a + length h.more = ap length h.is ∙ length-append a h.more in omega (arith, l, below)

-- ---- one part after another

clashes-append : (seen xs ys : List Declared) → clashes_behind seen (xs ++ ys) ≡ clashes_behind seen xs ++ clashes_behind (seen ++ xs) ys
unfolding clashes_behind
clashes-append seen [] ys = ap (λ z. clashes_behind z ys) (sym (append-nil seen))
clashes-append seen (x ∷ xs) ys =
    ap (λ z. unless (not (list_any (clashes x) seen)) cause.DuplicateName x.word.place ++ z)
    (clashes-append (seen ++ x ∷ []) xs ys ∙ ap (λ z. clashes_behind (seen ++ x ∷ []) xs ++ clashes_behind z ys) (append_assoc seen (x ∷ []) xs))
    ∙ sym (append_assoc (unless (not (list_any (clashes x) seen)) cause.DuplicateName x.word.place) (clashes_behind (seen ++ x ∷ []) xs) (clashes_behind (seen ++ x ∷ xs) ys))

pub added-none : (a b : Known) → b ≡ a → Added a [] b
unfolding clashes_behind
added-none a b is = record { free = refl; grown = ap names_of is ∙ sym (append-nil (names_of a)); spaces = longer-same a.spaces b.spaces (ap (λ (k : Known). k.spaces) is) }

pub added-then : (a b c : Known) (xs ys : List Declared) → Added a xs b → Added b ys c → Added a (xs ++ ys) c
added-then a b c xs ys h g = record {
  free = clashes-append (names_of a) xs ys ∙ ap (λ z. z ++ clashes_behind (names_of a ++ xs) ys) h.free ∙ ap (λ z. clashes_behind z ys) (sym h.grown) ∙ g.free;
  grown = g.grown ∙ ap (λ z. z ++ ys) h.grown ∙ append_assoc (names_of a) xs ys;
  spaces = longer-then a.spaces b.spaces c.spaces h.spaces g.spaces;
}

-- a call that follows
pub adds-then : {A : Type 0} (a b c : Known) (xs ys : List Declared) (r : Result A Fail) → Added a xs b → Adds b ys r c → Adds a (xs ++ ys) r c
adds-then a b c xs ys (Ok done) h g = added-then a b c xs ys h g
adds-then a b c xs ys (Err (fail.Refused f)) h g =
    subst (In (fault f.cause f.place)) (sym (clashes-append (names_of a) xs ys)) (in_right (fault f.cause f.place) (clashes_behind (names_of a) xs) (clashes_behind (names_of a ++ xs) ys)
    (subst (λ z. In (fault f.cause f.place) (clashes_behind z ys)) h.grown g))
adds-then a b c xs ys (Err fail.NoMemory) h g = tt

-- a refusal among some is one of more
pub adds-more : (A B : Type 0) (a b c : Known) (xs ys : List Declared) (e : Fail) → Adds {A = A} a xs (Err e) b → Adds {A = B} a (xs ++ ys) (Err e) c
adds-more A B a b c xs ys (fail.Refused f) h =
    subst (In (fault f.cause f.place)) (sym (clashes-append (names_of a) xs ys)) (in_left (fault f.cause f.place) (clashes_behind (names_of a) xs) (clashes_behind (names_of a ++ xs) ys) h)
adds-more A B a b c xs ys fail.NoMemory h = tt

-- a refusal is one whatever is answered else, and whatever is left behind
pub adds-err : (A B : Type 0) (a b c : Known) (xs : List Declared) (e : Fail) → Adds {A = A} a xs (Err e) b → Adds {A = B} a xs (Err e) c
adds-err A B a b c xs (fail.Refused f) h = h
adds-err A B a b c xs fail.NoMemory h = tt

-- the same answer, of equal declarations
pub adds-at : {A : Type 0} (a b : Known) (xs ys : List Declared) (r : Result A Fail) → xs ≡ ys → Adds a xs r b → Adds a ys r b
adds-at a b xs ys r is h = subst (λ z. Adds a z r b) is h

-- what is added where more namespaces have a number
pub adds-from : {A : Type 0} (a b c : Known) (xs : List Declared) (r : Result A Fail) → names_of b ≡ names_of a → IsLonger a.spaces b.spaces → Adds b xs r c → Adds a xs r c
adds-from a b c xs (Ok done) is longer h = record {
  free = ap (λ z. clashes_behind z xs) (sym is) ∙ h.free;
  grown = h.grown ∙ ap (λ z. z ++ xs) is;
  spaces = longer-then a.spaces b.spaces c.spaces longer h.spaces;
}
adds-from a b c xs (Err (fail.Refused f)) is longer h = subst (λ z. In (fault f.cause f.place) (clashes_behind z xs)) is h
adds-from a b c xs (Err fail.NoMemory) is longer h = tt

-- ---- one declaration

pub adds-clash : (A : Type 0) (a b : Known) (x : Declared) (e : Fail) (f : Refused) (found : Bool) → found ≡ list_any (clashes x) (names_of a) → found ≡ true → e ≡ fail.Refused f
    → fault f.cause f.place ≡ fault cause.DuplicateName x.word.place → Adds {A = A} a (x ∷ []) (Err e) b
unfolding clashes_behind
adds-clash A a b x e f found was so is same = subst (λ z. Adds {A = A} a (x ∷ []) (Err z) b) (sym is)
    (subst (λ z. In (fault f.cause f.place) (unless (not z) cause.DuplicateName x.word.place ++ [])) (sym so ∙ was) (inl same))

pub added-one : (a b : Known) (m : Member) (found : Bool) → found ≡ list_any (clashes (declared_in a.spaces m)) (names_of a) → found ≡ false
    → b ≡ record { spaces = a.spaces; members = a.members ++ m ∷ [] } → Added a (declared_in a.spaces m ∷ []) b
unfolding clashes_behind
added-one a b m found was so is = record {
  free = ap (λ z. unless (not z) cause.DuplicateName m.place ++ []) (sym was ∙ so);
  grown = ap names_of is ∙ map-append (declared_in a.spaces) a.members (m ∷ []);
  spaces = longer-same a.spaces b.spaces (ap (λ (k : Known). k.spaces) is);
}

-- ---- a list of parts, each read in a namespace that keeps its number

one : (i : ℕ) → i + 1 ≡ suc i
one i = omega arith

pub take-more : {X : Type 0} (xs : List X) (i : ℕ) (x : X) → i < length xs → x ≡ get_or xs i x → take (i + 1) xs ≡ take i xs ++ x ∷ []
take-more xs i x within is = ap (λ n. take n xs) (one i) ∙ take-suc xs i x within ∙ ap (λ y. take i xs ++ y ∷ []) (sym is)

parts-more : {X : Type 0} (f : X → List Declared) (xs : List X) (i : ℕ) (x : X) → i < length xs → x ≡ get_or xs i x → flat_map f (take i xs) ++ f x ≡ flat_map f (take (i + 1) xs)
parts-more f xs i x within is = sym (ap (flat_map f) (take-more xs i x within is) ∙ flat_map-append f (take i xs) (x ∷ []) ∙ ap (λ z. flat_map f (take i xs) ++ z) (append-nil (f x)))

pub adds-start : {X : Type 0} (f : Space → X → List Declared) (xs : List X) (space : ℕ) (a : Known) → Added a (flat_map (f (slice_index_or a.spaces space [])) (take 0 xs)) a
adds-start f xs space a = added-none a a refl

pub adds-next : {X : Type 0} (f : Space → X → List Declared) (xs : List X) (space i : ℕ) (x : X) (a b c : Known) → space < length a.spaces → i < length xs → x ≡ get_or xs i x
    → Added a (flat_map (f (slice_index_or a.spaces space [])) (take i xs)) b → Added b (f (slice_index_or b.spaces space []) x) c
    → Added a (flat_map (f (slice_index_or a.spaces space [])) (take (i + 1) xs)) c
adds-next f xs space i x a b c below within is h g =
    subst (λ z. Added a z c) (parts-more (f (slice_index_or a.spaces space [])) xs i x within is)
    (added-then a b c (flat_map (f (slice_index_or a.spaces space [])) (take i xs)) (f (slice_index_or a.spaces space []) x) h
    (subst (λ s. Added b (f s x) c) (longer-at a.spaces b.spaces space h.spaces below) g))

pub adds-stop : {X : Type 0} (A : Type 0) (f : Space → X → List Declared) (xs : List X) (space i : ℕ) (x : X) (a b c d : Known) (e : Fail) → space < length a.spaces → i < length xs → x ≡ get_or xs i x
    → Added a (flat_map (f (slice_index_or a.spaces space [])) (take i xs)) b → Adds {A = A} b (f (slice_index_or b.spaces space []) x) (Err e) c
    → Adds {A = A} a (flat_map (f (slice_index_or a.spaces space [])) xs) (Err e) d
adds-stop {X = X} A f xs space i x a b c d e below within is h g = subst (λ z. Adds {A = A} a z (Err e) d) (whole (f (slice_index_or a.spaces space [])) xs i)
    (adds-more A A a c d (flat_map (f (slice_index_or a.spaces space [])) (take (i + 1) xs)) (flat_map (f (slice_index_or a.spaces space [])) (drop (i + 1) xs)) e
    (subst (λ z. Adds {A = A} a z (Err e) c) (parts-more (f (slice_index_or a.spaces space [])) xs i x within is)
    (adds-then {A = A} a b c (flat_map (f (slice_index_or a.spaces space [])) (take i xs)) (f (slice_index_or a.spaces space []) x) (Err e) h
    (subst (λ s. Adds {A = A} b (f s x) (Err e) c) (longer-at a.spaces b.spaces space h.spaces below) g))))
  where
    whole : (f : X → List Declared) (xs : List X) (i : ℕ) → flat_map f (take (i + 1) xs) ++ flat_map f (drop (i + 1) xs) ≡ flat_map f xs
    whole f xs i = sym (flat_map-append f (take (i + 1) xs) (drop (i + 1) xs)) ∙ ap (flat_map f) (take-append-drop (i + 1) xs)

pub adds-all : {X : Type 0} (f : Space → X → List Declared) (xs : List X) (space i : ℕ) (a b : Known) → i ≡ length xs
    → Added a (flat_map (f (slice_index_or a.spaces space [])) (take i xs)) b → Added a (flat_map (f (slice_index_or a.spaces space [])) xs) b
adds-all f xs space i a b all h = subst (λ z. Added a (flat_map (f (slice_index_or a.spaces space [])) z) b) (ap (λ n. take n xs) all ∙ take-length xs) h
