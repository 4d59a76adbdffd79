-- What the calls compute, over plain variables.
use Rattle.std.proofs.Common.{◌≡◌, ◌≢◌, ℕ, ◌*◌, ◌/◌, ◌%◌, ◌^◌, ◌<◌, ◌≤◌, ℤ, pos, ◌*ℤ◌, ◌≤ℤ◌, refl, sym, ap, subst, ◌∙◌, inl, inr, arith, to_z, of_z}
use Rattle.std.specs.Prelude.{FitsSigned, unsigned_abs, Bool, true, false, int_lt, if◌then◌else◌, int_div, int_rem}
use Rattle.std.specs.Int.{Width, w32, w64, w128, cast_unsigned, cast_signed, int_rem_euclid, int_min, int_max, int_shr, int_wrap}
use Rattle.std.proofs.lemmas.Int.{ints, clamps, to_z-of_z}
use Rattle.std.proofs.lemmas.Nat.{pow_pos, mul-mod_second}
use mir.Val.{bits}
use Rattle.cm_number.specs.Conversion.{floor_modulus, to_signed, to_unsigned, nearest, IsWidth, width_of}
use Rattle.cm_number.specs.Division.{quotient, remainder}
use Rattle.cm_number.specs.Shift.{shift_amount, left_shift, right_shift, zero_filled_shift, floor_quotient}
use Rattle.cm_number.proofs.Modulus.{floor_modulus-mul, floor_modulus-nat}
use Rattle.cm_number.proofs.Conversions.{int_wrap_is, to_unsigned_is, cast_signed-to_unsigned, to_signed-narrow}
use Rattle.cm_number.proofs.Divisions.{truncated_quotient_is, remainder_is, int_div-Fits}
use Rattle.cm_number.proofs.Shifts.{floor_quotient_is, floor_quotient-Fits, shift_amount-lt}

-- ---- the width

pub bits_of_width : (b : ℕ) → IsWidth b → bits (width_of b) ≡ b
bits_of_width b (inl e) = ap (λ n. bits (width_of n)) e ∙ sym e
bits_of_width b (inr e) = ap (λ n. bits (width_of n)) e ∙ sym e

pub width_at_most_64 : (b : ℕ) → IsWidth b → bits (width_of b) ≤ 64
width_at_most_64 b (inl e) = omega (arith, bits_of_width b (inl e))
width_at_most_64 b (inr e) = omega (arith, bits_of_width b (inr e))

-- ---- conversion

pub wrap_result : (w : Width) (v : ℤ) → FitsSigned w128 v → cast_signed w (unsigned_abs (int_rem_euclid (to_z w128 (of_z w128 v)) (pos (2 ^ bits w)))) ≡ to_signed w v
unfolding int_wrap
wrap_result w v f = ap (λ y. int_wrap w y) (to_z-of_z w128 v f) ∙ int_wrap_is w v

pub nearest_is : (low high v : ℤ) → low ≤ℤ high → int_max low (int_min v high) ≡ nearest low high v
unfolding nearest
nearest_is low high v h = by (int_lt v low) (int_lt high v) refl refl
  where
    by : (s t : Bool) → int_lt v low ≡ s → int_lt high v ≡ t → int_max low (int_min v high) ≡ (if s then low else (if t then high else v))
    by true t e f = omega (arith, ints, clamps)
    by false true e f = omega (arith, ints, clamps)
    by false false e f = omega (arith, ints, clamps)

pub unsigned_at_32 : (b : ℕ) (v : ℤ) → b ≡ 32 → FitsSigned (width_of b) v → FitsSigned w64 v → cast_unsigned w32 (to_z w32 (of_z w32 (to_z w64 (of_z w64 v)))) ≡ to_unsigned (width_of b) v
unsigned_at_32 b v e f g =
    let narrow : FitsSigned w32 v = subst (λ n. FitsSigned (width_of n) v) e f in
    ap (λ y. cast_unsigned w32 (to_z w32 (of_z w32 y))) (to_z-of_z w64 v g) ∙ ap (cast_unsigned w32) (to_z-of_z w32 v narrow)
    ∙ sym (to_unsigned_is w32 v narrow) ∙ ap (λ n. to_unsigned (width_of n) v) (sym e)

pub unsigned_at_64 : (b : ℕ) (v : ℤ) → IsWidth b → b ≢ 32 → FitsSigned w64 v → cast_unsigned w64 (to_z w64 (of_z w64 v)) ≡ to_unsigned (width_of b) v
unsigned_at_64 b v (inl e) n g = absurd (n e)
unsigned_at_64 b v (inr e) n g = ap (cast_unsigned w64) (to_z-of_z w64 v g) ∙ sym (to_unsigned_is w64 v g) ∙ ap (λ n. to_unsigned (width_of n) v) (sym e)

-- ---- division

pub wide_quotient : (v d : ℤ) → FitsSigned w64 v → FitsSigned w128 (int_div v d)
wide_quotient v d f = int_div-Fits w128 v d (omega (arith, ints, f)) (λ e. let l = e.0 in absurd (omega (arith, ints, f, l)))

pub quotient_result : (w : Width) (v d : ℤ) → FitsSigned w64 v → FitsSigned w64 d → to_signed w (to_z w128 (of_z w128 (int_div (to_z w128 (of_z w128 v)) (to_z w128 (of_z w128 d))))) ≡ quotient w v d
unfolding quotient
quotient_result w v d f g =
    (λ i. to_signed w (to_z w128 (of_z w128 (int_div (to_z-of_z w128 v (omega (arith, ints, f)) i) (to_z-of_z w128 d (omega (arith, ints, g)) i)))))
    ∙ ap (to_signed w) (to_z-of_z w128 (int_div v d) (wide_quotient v d f) ∙ sym (truncated_quotient_is v d))

pub remainder_result : (v d : ℤ) → FitsSigned w64 v → FitsSigned w64 d → int_rem (to_z w64 (of_z w64 v)) (to_z w64 (of_z w64 d)) ≡ remainder v d
remainder_result v d f g = (λ i. int_rem (to_z-of_z w64 v f i) (to_z-of_z w64 d g i)) ∙ sym (remainder_is v d)

-- ---- shifts

pub places_is : (b : ℕ) (by : ℤ) → IsWidth b → floor_modulus by b ≡ shift_amount (width_of b) by
places_is b by h = ap (floor_modulus by) (sym (bits_of_width b h))

pub places-lt : (b : ℕ) (by : ℤ) → IsWidth b → floor_modulus by b < 64
places-lt b by h = omega (arith, places_is b by h, shift_amount-lt (width_of b) by, width_at_most_64 b h)

-- a product with a power of 2, computed on bits
shl_wrapped : (w : Width) (v : ℤ) (k : ℕ) → FitsSigned w v → cast_signed w ((cast_unsigned w v * 2 ^ k) % 2 ^ bits w) ≡ to_signed w (v *ℤ pos (2 ^ k))
unfolding to_unsigned
shl_wrapped w v k f =
    ap (cast_signed w) (sym (floor_modulus-mul (2 ^ bits w) v (pos (2 ^ k)) (pow_pos (bits w))
    ∙ (λ i. (to_unsigned_is w v f i * floor_modulus-nat (2 ^ k) (2 ^ bits w) i) % 2 ^ bits w)
    ∙ mul-mod_second (cast_unsigned w v) (2 ^ k) (2 ^ bits w)))
    ∙ cast_signed-to_unsigned w (v *ℤ pos (2 ^ k))

pub left_shift_result : (w : Width) (v by : ℤ) (k : ℕ) → bits w ≤ 64 → FitsSigned w64 v → k ≡ shift_amount w by → to_signed w (cast_signed w128 ((cast_unsigned w128 v * 2 ^ k) % 2 ^ 128)) ≡ left_shift w v by
unfolding left_shift
left_shift_result w v by k h f e =
    ap (to_signed w) (shl_wrapped w128 v k (omega (arith, ints, f))) ∙ to_signed-narrow w w128 _ (omega arith) ∙ ap (λ n. to_signed w (v *ℤ pos (2 ^ n))) e

pub right_shift_result : (w : Width) (v by : ℤ) (k : ℕ) → FitsSigned w64 v → k ≡ shift_amount w by → to_z w64 (of_z w64 (int_shr (to_z w64 (of_z w64 v)) k)) ≡ right_shift w v by
unfolding right_shift
right_shift_result w v by k f e =
    ap (λ y. to_z w64 (of_z w64 (int_shr y k))) (to_z-of_z w64 v f) ∙ ap (λ y. to_z w64 (of_z w64 y)) (sym (floor_quotient_is v k))
    ∙ to_z-of_z w64 _ (floor_quotient-Fits w64 v (2 ^ k) f) ∙ ap (λ n. floor_quotient v (2 ^ n)) e

pub zero_filled_result : (w : Width) (v by : ℤ) (k u : ℕ) → u ≡ to_unsigned w v → k ≡ shift_amount w by → to_signed w (pos (u / 2 ^ k)) ≡ zero_filled_shift w v by
unfolding zero_filled_shift
zero_filled_result w v by k u e p = λ i. to_signed w (pos (e i / 2 ^ p i))
