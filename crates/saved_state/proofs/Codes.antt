-- What is spelled is read again, and what is read is what is spelled: a law for each way to put parts together.
use Rattle.std.proofs.Common.{◌≡◌, ℕ, zero, suc, ◌+◌, ◌≤◌, ◌<◌, nat_le, get_or, List, [], ◌∷◌, ◌++◌, length, take, drop, Bool, true, false, Option, Some, None, if◌then◌else◌, refl, sym, ap, subst, ◌∙◌, arith}
use Rattle.std.proofs.lemmas.List.{get_or-drop, length-append, length-take-le, take-append-drop}
use Rattle.std.proofs.lemmas.Bool.{le-leb, leb-true}
use Rattle.std.proofs.Math.Seq.{take-append_seam, drop-append_seam}
use Rattle.saved_state.specs.Reading.{◌>>=◌, Reader, bytes_at}

-- ---- bytes

abbrev pub AreBytes : List ℕ → Type 0
AreBytes bytes = (i : ℕ) → get_or bytes i 0 < 256

pub are_bytes-drop : (n : ℕ) (bytes : List ℕ) → AreBytes bytes → AreBytes (drop n bytes)
are_bytes-drop n bytes all i = subst (λ b. b < 256) (sym (get_or-drop n bytes i 0)) (all (n + i))

pub byte_of_front : (front rest : List ℕ) (i : ℕ) → AreBytes (front ++ rest) → get_or front i 0 < 256
byte_of_front [] rest i all = omega arith
byte_of_front (b ∷ front) rest zero all = all 0
byte_of_front (b ∷ front) rest (suc i) all = byte_of_front front rest i (λ j. all (suc j))

-- ---- steps

-- a step that gives something was given something
pub record Stepped {X Y : Type 0} (r : Option X) (f : X → Option Y) (y : Y) : Type 0 where
  pub x : X
  pub is : r ≡ Some x
  pub gives : f x ≡ Some y

pub stepped : {X Y : Type 0} (r : Option X) (f : X → Option Y) (y : Y) → (r >>= f) ≡ Some y → Stepped r f y
stepped None f y h = absurd (cc)
stepped (Some x) f y h = record { x = x; is = refl; gives = h }

-- ---- what was read

abbrev pub read : {X : Type 0} → X → List ℕ → Option (X × List ℕ)
read x rest = Some (x, rest)

abbrev first_or : {X : Type 0} → X → Option (X × List ℕ) → X
first_or x None = x
first_or x (Some found) = found.0

abbrev rest_or : {X : Type 0} → List ℕ → Option (X × List ℕ) → List ℕ
rest_or rest None = rest
rest_or rest (Some found) = found.1

pub first_is : {X : Type 0} (x y : X) (a b : List ℕ) → read x a ≡ read y b → x ≡ y
first_is x y a b h = ap (first_or x) h

pub rest_is : {X : Type 0} (x y : X) (a b : List ℕ) → read x a ≡ read y b → a ≡ b
rest_is x y a b h = ap (rest_or a) h

-- ---- codes

-- what is read: bytes that spell it, and it may be spelled; the rest is bytes too
pub record Found {X : Type 0} (spell : X → List ℕ) (P : X → Type 0) (bytes : List ℕ) (x : X) (rest : List ℕ) : Type 0 where
  pub whole : bytes ≡ spell x ++ rest
  pub may : P x
  pub left : AreBytes rest

-- a reader and a spelling that belong together
pub record IsCode {X : Type 0} (f : Reader X) (spell : X → List ℕ) (P : X → Type 0) : Type 0 where
  pub again : (x : X) (rest : List ℕ) → P x → f (spell x ++ rest) ≡ Some (x, rest)
  pub found : (bytes : List ℕ) (x : X) (rest : List ℕ) → AreBytes bytes → f bytes ≡ Some (x, rest) → Found spell P bytes x rest

abbrev pub split : Bool → ℕ → List ℕ → Option (List ℕ × List ℕ)
split truth n bytes = if truth then Some (take n bytes, drop n bytes) else None

split_is : (truth : Bool) (bytes front rest : List ℕ) (n : ℕ) → truth ≡ true → take n bytes ≡ front → drop n bytes ≡ rest → split truth n bytes ≡ read front rest
split_is truth bytes front rest n is one other = rw (is, one, other) refl

pub bytes_again : (front rest : List ℕ) → bytes_at (length front) (front ++ rest) ≡ read front rest
unfolding bytes_at
bytes_again front rest =
    split_is (nat_le (length front) (length (front ++ rest))) (front ++ rest) front rest (length front)
    (le-leb (length front) (length (front ++ rest)) (omega (arith, length-append front rest))) (take-append_seam front rest) (drop-append_seam front rest)

pub record Taken (n : ℕ) (bytes front rest : List ℕ) : Type 0 where
  pub long : length front ≡ n
  pub whole : bytes ≡ front ++ rest

split_taken : (truth : Bool) (bytes front rest : List ℕ) (n : ℕ) → (truth ≡ true → n ≤ length bytes) → split truth n bytes ≡ read front rest → Taken n bytes front rest
split_taken false bytes front rest n le h = absurd (cc)
split_taken true bytes front rest n le h =
    let one : take n bytes ≡ front = first_is (take n bytes) front (drop n bytes) rest h in
    let other : drop n bytes ≡ rest = rest_is (take n bytes) front (drop n bytes) rest h in
    record {
      long = ap length (sym one) ∙ length-take-le n bytes (le refl);
      whole = sym (take-append-drop n bytes) ∙ (ap (λ f. f ++ drop n bytes) one ∙ ap (λ r. front ++ r) other);
    }

pub bytes_taken : (n : ℕ) (bytes front rest : List ℕ) → bytes_at n bytes ≡ read front rest → Taken n bytes front rest
unfolding bytes_at
bytes_taken n bytes front rest h = split_taken (nat_le n (length bytes)) bytes front rest n (leb-true n (length bytes)) h

pub are_bytes-rest : (front rest : List ℕ) → AreBytes (front ++ rest) → AreBytes rest
are_bytes-rest front rest all = subst AreBytes (drop-append_seam front rest) (are_bytes-drop (length front) (front ++ rest) all)
