-- Answers that are exact: none where nothing is wrong, and else a fault that is there. A check that stops at the first fault
-- is put together from checks of parts, and is exact where each of these is.
use Rattle.std.specs.Prelude.{◌≡◌, refl, suc, Bool, true, false, List, [], ◌∷◌, ◌++◌, ◌⊎◌, flat_map, Option, Some, None, is_some, Result, Ok, Err, Contains}
use Rattle.std.proofs.Common.{sym, ◌∙◌, subst, inl, inr, arith}
use Rattle.std.proofs.lemmas.List.{append-nil}
use Rattle.std.proofs.lemmas.List.Concat.{flat_map-append}
use Rattle.cm_base.specs.declared.cause.Cause.{Cause}
use Rattle.cm_base.specs.declared.place.Place.{Place}
use Rattle.cm_base.specs.declared.failure.Fail.{Fail}
use Rattle.cm_base.specs.declared.failure.Fail.TheVariants as fail
use Rattle.cm_meaning.specs.Faults.{Fault, fault, unless}

-- one of some faults
abbrev pub In : Fault → List Fault → Type 0
In f [] = ⊥
In f (x ∷ xs) = (f ≡ x) ⊎ In f xs

-- the answer of a call that looks for these faults, unless memory runs out
abbrev pub IsExactly : {A : Type 0} → List Fault → Result A Fail → Type 0
IsExactly faults (Ok a) = faults ≡ []
IsExactly faults (Err (fail.Refused f)) = In (fault f.cause f.place) faults
IsExactly faults (Err fail.NoMemory) = Unit {0}

-- ---- checks that stop at the first fault

abbrev pub Checks : Type 0 → Type 0
Checks A = Result A Fault

infixl 10 ◌>>=◌
abbrev pub ◌>>=◌ : {A B : Type 0} → Checks A → (A → Checks B) → Checks B
Ok a >>= f = f a
Err e >>= f = Err e

abbrev pub needed : {A : Type 0} → Option A → Cause → Place → Checks A
needed None c p = Err (fault c p)
needed (Some a) c p = Ok a

abbrev pub check : Bool → Cause → Place → Checks (Unit {0})
check true c p = Ok tt
check false c p = Err (fault c p)

-- an answer has none of these faults, and is the one that is wanted; a refusal is one of them
abbrev pub Answers : {A : Type 0} → List Fault → Option A → Checks A → Type 0
Answers faults a (Ok x) = (faults ≡ []) × (a ≡ Some x)
Answers faults a (Err f) = In f faults

-- of some sites with the faults of each
pub record Exact {S A : Type 0} (rows : S → List Fault) (sites : List S) (a : Option A) (c : Checks A) : Type 0 where
  pub answers : Answers (flat_map rows sites) a c

-- what code answers for a check, unless memory runs out
abbrev pub Meets : {A : Type 0} → Checks A → Result A Fail → Type 0
Meets c (Ok a) = c ≡ Ok a
Meets c (Err (fail.Refused f)) = c ≡ Err (fault f.cause f.place)
Meets c (Err fail.NoMemory) = Unit {0}

-- ---- laws

pub in_left : (f : Fault) (xs ys : List Fault) → In f xs → In f (xs ++ ys)
in_left f [] ys h = absurd h
in_left f (x ∷ xs) ys (inl is) = inl is
in_left f (x ∷ xs) ys (inr h) = inr (in_left f xs ys h)

pub in_right : (f : Fault) (xs ys : List Fault) → In f ys → In f (xs ++ ys)
in_right f [] ys h = h
in_right f (x ∷ xs) ys h = inr (in_right f xs ys h)

contains_more : (x y : Fault) (xs : List Fault) → Contains xs y → Contains (x ∷ xs) y
contains_more x y xs (k, below, is) = (suc k, omega (arith, below), is)

-- a fault that is one of some is among them
pub in-contains : (f : Fault) (xs : List Fault) → In f xs → Contains xs f
in-contains f [] h = absurd h
in-contains f (x ∷ xs) (inl is) = (0, omega arith, sym is)
in-contains f (x ∷ xs) (inr h) = contains_more x f xs (in-contains f xs h)

joined : {S A : Type 0} (rows : S → List Fault) (xs ys : List S) (a : Option A) (c : Checks A)
    → flat_map rows xs ≡ [] → Answers (flat_map rows ys) a c → Answers (flat_map rows (xs ++ ys)) a c
joined rows xs ys a (Ok x) none h = (flat_map-append rows xs ys ∙ rw (none, h.0) refl, h.1)
joined rows xs ys a (Err f) none h = subst (In f) (sym (flat_map-append rows xs ys)) (in_right f (flat_map rows xs) (flat_map rows ys) h)

-- a check, and then another that may use what it gave
pub exact-bind : {S A B : Type 0} (rows : S → List Fault) (xs ys : List S) (a : Option A) (b : Option B) (c : Checks A) (k : A → Checks B)
    → Exact rows xs a c → ((x : A) → a ≡ Some x → Exact rows ys b (k x)) → Exact rows (xs ++ ys) b (c >>= k)
exact-bind rows xs ys a b (Ok x) k h g = record { answers = joined rows xs ys b (k x) h.answers.0 (g x h.answers.1).answers }
exact-bind rows xs ys a b (Err f) k h g =
    record { answers = subst (In f) (sym (flat_map-append rows xs ys)) (in_left f (flat_map rows xs) (flat_map rows ys) h.answers) }

pub exact-map : {S A B : Type 0} (rows : S → List Fault) (xs : List S) (a : Option A) (b : Option B) (c : Checks A) (k : A → B)
    → Exact rows xs a c → ((x : A) → a ≡ Some x → b ≡ Some (k x)) → Exact rows xs b (c >>= (λ x. Ok (k x)))
exact-map rows xs a b (Ok x) k h g = record { answers = (h.answers.0, g x h.answers.1) }
exact-map rows xs a b (Err f) k h g = record { answers = h.answers }

pub exact-one : {S A : Type 0} (rows : S → List Fault) (x : S) (a : Option A) (c : Checks A) → Answers (rows x) a c → Exact rows (x ∷ []) a c
exact-one rows x a c h = record { answers = subst (λ fs. Answers fs a c) (sym (append-nil (rows x))) h }

pub exact-nil : {S A : Type 0} (rows : S → List Fault) (x : A) → Exact rows [] (Some x) (Ok x)
exact-nil rows x = record { answers = (refl, refl) }

pub answers-needed : {A : Type 0} (a : Option A) (c : Cause) (p : Place) → Answers (unless (is_some a) c p) a (needed a c p)
answers-needed None c p = inl refl
answers-needed (Some x) c p = (refl, refl)

pub answers-check : (good : Bool) (c : Cause) (p : Place) → Answers (unless good c p) (Some tt) (check good c p)
answers-check true c p = (refl, refl)
answers-check false c p = inl refl

-- code that answers as an exact check does is exact
pub meets-exactly : {S A : Type 0} (rows : S → List Fault) (xs : List S) (a : Option A) (c : Checks A) (result : Result A Fail)
    → Exact rows xs a c → Meets c result → IsExactly (flat_map rows xs) result
meets-exactly rows xs a c (Ok x) h m = (subst (Answers (flat_map rows xs) a) m h.answers).0
meets-exactly rows xs a c (Err (fail.Refused f)) h m = subst (Answers (flat_map rows xs) a) m h.answers
meets-exactly rows xs a c (Err fail.NoMemory) h m = tt
