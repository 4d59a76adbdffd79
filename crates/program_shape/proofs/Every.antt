-- What holds of each element of a list as far as a loop has come.
use Rattle.std.proofs.Common.{◌≡◌, ℕ, ◌+◌, ◌<◌, ◌≤◌, List, length, take, get_or, All, subst}
use Rattle.std.proofs.lemmas.List.{take_all}
use Rattle.std.proofs.lemmas.List.Elements.{All-more}

pub all_step : {X : Type 0} (P : X → Type 0) (xs ys : List X) (i : ℕ) (x : X) → ys ≡ xs → i < length ys → x ≡ get_or ys i x → All P (take i xs) → P x → All P (take (i + 1) xs)
all_step P xs ys i x e lt is h p =
    let lt' : i < length xs = rw (← e) lt in
    let is' : x ≡ get_or xs i x = rw (← e) is in
    All-more P xs i x lt' h (subst P is' p)

pub all_done : {X : Type 0} (P : X → Type 0) (xs ys : List X) (i : ℕ) → ys ≡ xs → length ys ≤ i → All P (take i xs) → All P xs
all_done P xs ys i e le h = let le' : length xs ≤ i = rw (← e) le in subst (All P) (take_all i xs le') h

pub all_step_at : {X : Type 0} (P : X → Type 0) (xs ys : List X) (i : ℕ) (d : X) → ys ≡ xs → i < length ys → All P (take i xs) → P (get_or ys i d) → All P (take (i + 1) xs)
all_step_at {X} P xs ys i d e lt h p =
    let lt' : i < length xs = rw (← e) lt in
    let q : P (get_or xs i d) = subst (λ (zs : List X). P (get_or zs i d)) e p in
    All-more P xs i d lt' h q
