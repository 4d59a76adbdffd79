-- The nearest number of a range, and the conversions to `wrap`, `clamp` and `bool`.
use Rattle.std.proofs.Common.{◌≡◌, ◌≢◌, ℕ, zero, suc, ◌-◌, ℤ, pos, negsuc, ◌≤ℤ◌, refl, sym, subst, ◌↔◌, arith}
use Rattle.std.specs.Prelude.{Bool, true, false, int_lt, if◌then◌else◌, IsTrue}
use Rattle.std.proofs.lemmas.Int.{ints}
use Rattle.cm_number.specs.Conversion.{nearest, to_clamp, to_bool, IsNearest}

nearest_at : (low high z : ℤ) → low ≤ℤ high → (s t : Bool) → int_lt z low ≡ s → int_lt high z ≡ t → IsNearest low high z (if s then low else (if t then high else z))
nearest_at low high z h true t p q = record {
  above = omega (arith, ints);
  below = h;
  closest = λ x f g. omega (arith, ints);
}
nearest_at low high z h false true p q = record {
  above = h;
  below = omega (arith, ints);
  closest = λ x f g. omega (arith, ints);
}
nearest_at low high z h false false p q = record {
  above = omega (arith, ints);
  below = omega (arith, ints);
  closest = λ x f g. omega (arith, ints);
}

pub nearest-IsNearest : (low high z : ℤ) → low ≤ℤ high → IsNearest low high z (nearest low high z)
unfolding nearest
nearest-IsNearest low high z h = nearest_at low high z h (int_lt z low) (int_lt high z) refl refl

alone : (low high z r : ℤ) → low ≤ℤ high → IsNearest low high z r → (s t : Bool) → int_lt z low ≡ s → int_lt high z ≡ t → r ≡ (if s then low else (if t then high else z))
alone low high z r h n true t p q = let c = n.closest low (omega (arith, ints)) h in let a = n.above in omega (arith, ints)
alone low high z r h n false true p q = let c = n.closest high h (omega (arith, ints)) in let b = n.below in omega (arith, ints)
alone low high z r h n false false p q = let c = n.closest z (omega (arith, ints)) (omega (arith, ints)) in omega (arith, ints)

-- the nearest number of a range is the only number of the range that is at least as near as every other
pub nearest_only : (low high z r : ℤ) → low ≤ℤ high → (r ≡ nearest low high z) ↔ IsNearest low high z r
unfolding nearest
nearest_only low high z r h = (
  (λ e. subst (λ x. IsNearest low high z x) (sym e) (nearest-IsNearest low high z h)),
  (λ n. alone low high z r h n (int_lt z low) (int_lt high z) refl refl),
)

pub to_clamp_only : (n : ℕ) (z r : ℤ) → (r ≡ to_clamp n z) ↔ IsNearest (pos 0) (pos (n - 1)) z r
unfolding to_clamp
to_clamp_only n z r = nearest_only (pos 0) (pos (n - 1)) z r (omega (arith, ints))

-- a number of the range stays as it is
pub nearest_inside : (low high z : ℤ) → low ≤ℤ z → z ≤ℤ high → nearest low high z ≡ z
unfolding nearest
nearest_inside low high z p q = by (int_lt z low) (int_lt high z) refl refl
  where
    by : (s t : Bool) → int_lt z low ≡ s → int_lt high z ≡ t → (if s then low else (if t then high else z)) ≡ z
    by true t e f = absurd (omega (arith, ints))
    by false true e f = absurd (omega (arith, ints))
    by false false e f = refl

pub to_bool_only : (z : ℤ) → IsTrue (to_bool z) ↔ (z ≢ pos 0)
unfolding to_bool
to_bool_only (pos zero) = ((λ h. cc), (λ n. absurd (n refl)))
to_bool_only (pos (suc n)) = ((λ h e. cc), (λ n. refl))
to_bool_only (negsuc n) = ((λ h e. cc), (λ n. refl))
