-- Lists of parts: how high they are, and which tokens spell them.
use Rattle.std.specs.Prelude.{ℕ, max, ◌≡◌, refl, List, [], ◌∷◌, ◌++◌, Option, Some, None}
use Rattle.std.proofs.Common.{arith}
use Rattle.cm_tree.specs.declared.token.Token.{Token}
use Rattle.cm_tree.specs.declared.sign.Sign.TheVariants as s
use Rattle.cm_tree.specs.Spelling.{IsSign}

-- the greatest height of some parts
unfoldable pub highest : {A : Type 0} → (A → ℕ) → List A → ℕ
highest f [] = 0
highest f (x ∷ xs) = max (f x) (highest f xs)

pub highest-nil : {A : Type 0} (f : A → ℕ) → highest f [] ≡ 0
unfolding highest
highest-nil f = refl

pub highest-cons : {A : Type 0} (f : A → ℕ) (x : A) (xs : List A) → highest f (x ∷ xs) ≡ max (f x) (highest f xs)
unfolding highest
highest-cons f x xs = refl

pub highest-push : {A : Type 0} (f : A → ℕ) (xs : List A) (x : A) → highest f (xs ++ x ∷ []) ≡ max (highest f xs) (f x)
unfolding highest
highest-push f [] x = omega arith
highest-push f (y ∷ xs) x = let h = highest-push f xs x in omega arith

pub ruleset highests = (highest-nil, highest-push)

-- the height of a part that may be absent
abbrev pub optional : {A : Type 0} → (A → ℕ) → Option A → ℕ
optional f None = 0
optional f (Some x) = f x

-- [ x ]
pub data Optional {A : Type 0} (P : A → List Token → Type 0) : Option A → List Token → Type 0 where
  absent : Optional P None []
  present : (x : A) (tokens : List Token) → P x tokens → Optional P (Some x) tokens

-- { x }
pub data Every {A : Type 0} (P : A → List Token → Type 0) : List A → List Token → Type 0 where
  none : Every P [] []
  more : (x : A) (xs : List A) (first others : List Token) → P x first → Every P xs others → Every P (x ∷ xs) (first ++ others)

-- { "," x }
pub data Further {A : Type 0} (P : A → List Token → Type 0) : List A → List Token → Type 0 where
  none : Further P [] []
  more : (x : A) (xs : List A) (comma : Token) (first others : List Token)
      → IsSign s.Comma comma → P x first → Further P xs others → Further P (x ∷ xs) (comma ∷ (first ++ others))

-- x { "," x }
pub data Listed {A : Type 0} (P : A → List Token → Type 0) : List A → List Token → Type 0 where
  listed : (x : A) (xs : List A) (first others : List Token) → P x first → Further P xs others → Listed P (x ∷ xs) (first ++ others)

-- [ x { "," x } ]
pub data MaybeListed {A : Type 0} (P : A → List Token → Type 0) : List A → List Token → Type 0 where
  none : MaybeListed P [] []
  some : (xs : List A) (tokens : List Token) → Listed P xs tokens → MaybeListed P xs tokens
