-- Bytes that are missing count as 0.
use Rattle.std.proofs.Common.{◌≡◌, ◌+◌, ℕ, zero, suc, List, [], ◌∷◌, drop, get_or, refl, ap, ◌∙◌, w64}
use Rattle.std.specs.Prelude.{◌++◌, replicate}
use Rattle.std.specs.Int.{from_le_bytes, byte_worth, sum_through}
use Rattle.std.proofs.lemmas.List.{get_or-drop}

none_missing : (bytes zeros : List ℕ) (i : ℕ) → ((k : ℕ) → get_or zeros k 0 ≡ 0) → get_or (bytes ++ zeros) i 0 ≡ get_or bytes i 0
none_missing [] zeros i h = h i
none_missing (x ∷ xs) zeros zero h = refl
none_missing (x ∷ xs) zeros (suc i) h = none_missing xs zeros i h

abbrev zeros_of : ℕ → List ℕ
zeros_of n = replicate n 0

all_zero : (n k : ℕ) → get_or (zeros_of n) k 0 ≡ 0
all_zero zero k = refl
all_zero (suc n) zero = refl
all_zero (suc n) (suc k) = all_zero n k

left_zero : (i k : ℕ) → get_or (drop i (zeros_of 8)) k 0 ≡ 0
left_zero i k = get_or-drop i (zeros_of 8) k 0 ∙ all_zero 8 (i + k)

alike : (f g : ℕ → ℕ) → ((i : ℕ) → f i ≡ g i) → (n : ℕ) → sum_through f n ≡ sum_through g n
alike f g h zero = h zero
alike f g h (suc n) = ap (λ m. m + f (suc n)) (alike f g h n) ∙ ap (λ m. sum_through g n + m) (h (suc n))

-- bytes with zeros after them
pub padded : (bytes word : List ℕ) (n : ℕ) → word ≡ bytes → from_le_bytes w64 (word ++ drop n (zeros_of 8)) ≡ from_le_bytes w64 bytes
padded bytes word n e =
    alike (λ i. byte_worth i (get_or (word ++ drop n (zeros_of 8)) i 0)) (λ i. byte_worth i (get_or bytes i 0))
    (λ i. ap (byte_worth i) (none_missing word (drop n (zeros_of 8)) i (left_zero n) ∙ ap (λ b. get_or b i 0) e)) 7
