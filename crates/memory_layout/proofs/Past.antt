-- Numbers behind the end of a list.
use Rattle.std.specs.Prelude.{◌≡◌, refl, ℕ, zero, suc, ◌-◌, ◌≤◌, List, [], ◌∷◌, ◌++◌, map, length, None, slice_get, slice_index_or}
use Rattle.std.proofs.Common.{arith, ap, ◌∙◌}

pub past_map : {X Y : Type 0} (f : X → Y) (xs : List X) (i : ℕ) (d : Y) → None ≡ slice_get xs i → slice_index_or (map f xs) i d ≡ d
past_map f [] i d h = refl
past_map f (x ∷ xs) zero d h = cc
past_map f (x ∷ xs) (suc i) d h = past_map f xs i d h

pub past_item : {X : Type 0} (xs : List X) (i : ℕ) (d : X) → None ≡ slice_get xs i → slice_index_or xs i d ≡ d
past_item [] i d h = refl
past_item (x ∷ xs) zero d h = cc
past_item (x ∷ xs) (suc i) d h = past_item xs i d h

pub past_both : {X Y Z : Type 0} (f : X → Z) (g : Y → Z) (xs : List X) (ys : List Y) (i : ℕ) (d : Z)
    → length xs ≤ i → None ≡ slice_get ys (i - length xs) → slice_index_or (map f xs ++ map g ys) i d ≡ d
past_both f g [] ys i d h none = past_map g ys i d (none ∙ ap (slice_get ys) (omega arith))
past_both f g (x ∷ xs) ys zero d h none = absurd (omega (arith, h))
past_both f g (x ∷ xs) ys (suc i) d h none = past_both f g xs ys i d (omega (arith, h)) (none ∙ ap (slice_get ys) (omega arith))
