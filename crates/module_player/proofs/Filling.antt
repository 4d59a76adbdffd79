-- Scalars that are taken into room, 0 where none are given.
use Rattle.std.proofs.Common.{◌≡◌, ◌<◌, ◌≤◌, ◌+◌, ◌*◌, ℕ, zero, suc, List, [], ◌∷◌, ◌++◌, length, take, drop, get_or, replicate, min, refl, sym, ap, ◌∙◌, subst, ℤ, pos, arith}
use Rattle.std.specs.Prelude.{slice_set}
use Rattle.std.proofs.lemmas.List.{take_more, take_more_set, take_all, take_at, length-set, length-append, length-replicate, drop_min}
use Rattle.cm_base.specs.Parts.{given_at}

zeros_at : (n i : ℕ) → get_or (replicate n (pos 0)) i (pos 0) ≡ pos 0
zeros_at zero zero = refl
zeros_at zero (suc i) = refl
zeros_at (suc n) zero = refl
zeros_at (suc n) (suc i) = zeros_at n i

none_at : (i : ℕ) → get_or [] i (pos 0) ≡ pos 0
none_at zero = refl
none_at (suc i) = refl

padded_at : (given : List ℤ) (n i : ℕ) → get_or (given ++ replicate n (pos 0)) i (pos 0) ≡ get_or given i (pos 0)
padded_at [] n i = zeros_at n i ∙ sym (none_at i)
padded_at (z ∷ zs) n zero = refl
padded_at (z ∷ zs) n (suc i) = padded_at zs n i

-- as far as the loop has come
pub record AreTaken (given into first : List ℤ) (i : ℕ) : Type 0 where
  pub long : length into ≡ length first
  pub taken : take i into ≡ take i (given ++ replicate (length first) (pos 0))

pub first_taken : (given into : List ℤ) → AreTaken given into into 0
first_taken given into = record { long = refl; taken = refl }

pub next_taken : (given into first next : List ℤ) (i : ℕ) (scalar : ℤ) → AreTaken given into first i → i < length first → scalar ≡ get_or given i (pos 0) → next ≡ slice_set into i scalar →
    AreTaken given next first (i + 1)
next_taken given into first next i scalar are l e s =
    let target : List ℤ = given ++ replicate (length first) (pos 0) in
    let size : length target ≡ length given + length first = length-append given _ ∙ ap (λ n. length given + n) (length-replicate (length first) (pos 0)) in
    let inside : i < length target = omega (arith, l, size) in
    let there : i < length into = omega (arith, l, are.long) in
    record {
      long = ap length s ∙ (length-set into i scalar ∙ are.long);
      taken =
          ap (take (i + 1)) s
          ∙ (take_more_set into i scalar there
          ∙ (ap (λ xs. xs ++ scalar ∷ []) are.taken
          ∙ (ap (λ z. take i target ++ z ∷ []) (e ∙ sym (padded_at given (length first) i)) ∙ sym (take_more target i (pos 0) inside))));
    }

pub all_taken : (given into first : List ℤ) (i : ℕ) → AreTaken given into first i → length first ≤ i → i ≤ length first → into ≡ take (length first) (given ++ replicate (length first) (pos 0))
all_taken given into first i are l u =
    let e : i ≡ length first = omega (arith, l, u) in
    let whole : take i into ≡ into = take_all i into (omega (arith, l, are.long)) in
    sym whole ∙ (are.taken ∙ ap (λ n. take n (given ++ replicate (length first) (pos 0))) e)

-- a value that fills its room is taken as it is
pub taken_whole : (given into : List ℤ) → length given ≡ length into → take (length into) (given ++ replicate (length into) (pos 0)) ≡ given
taken_whole given into e = take_at given _ (length into) e

-- a place past the end has as much after it as one at the end
pub from_place : (given : List ℤ) (frame count first most : ℕ) → first ≡ min (frame * count) most → length given ≤ most →
    take count (drop (min first (length given)) given ++ replicate count (pos 0)) ≡ given_at (frame * count) count given
from_place given frame count first most e l =
    let place : ℕ = frame * count in
    let same : min first (length given) ≡ min place (length given) = omega (arith, e, l) in
    ap (λ rest. take count (rest ++ replicate count (pos 0))) (ap (λ n. drop n given) same ∙ drop_min place given)
