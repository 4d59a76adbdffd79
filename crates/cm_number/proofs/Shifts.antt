-- The floor quotient, and shifts.
use Rattle.std.proofs.Common.{◌≡◌, ℕ, ◌+◌, ◌-◌, ◌*◌, ◌/◌, ◌%◌, ◌^◌, ◌<◌, ◌≤◌, ℤ, pos, negsuc, ◌+ℤ◌, ◌*ℤ◌, refl, sym, ap, subst, ◌∙◌, ◌↔◌, arith}
use Rattle.std.specs.Prelude.{FitsSigned}
use Rattle.std.specs.Int.{Width, w8, w16, w32, w64, w128, cast_unsigned, int_shr}
use Rattle.std.proofs.lemmas.Int.{ints}
use Rattle.std.proofs.lemmas.Nat.{div-mul-add, div-add-mod', mod_below, pow_pos, pow-add}
use mir.Val.{bits}
use lib.Signed.{mag_shr}
use borrow.Author.Differences.{product_is}
use Rattle.cm_number.specs.Conversion.{to_signed, to_unsigned, IsWrapped}
use Rattle.cm_number.specs.Shift.{shift_amount, floor_quotient, left_shift, right_shift, zero_filled_shift, IsFloorQuotient}
use Rattle.cm_number.proofs.Modulus.{Congruent, Congruent-sym, Congruent-factor, floor_modulus-lt, floor_modulus_same, floor_modulus_by_nat}
use Rattle.cm_number.proofs.Conversions.{to_signed-Congruent, to_signed_only, cast_unsigned-Congruent}

pub floor_quotient-IsFloorQuotient : (n : ℕ) (z : ℤ) → 0 < n → IsFloorQuotient n z (floor_quotient z n)
unfolding floor_quotient
floor_quotient-IsFloorQuotient n (pos a) p = record { rest = a % n; whole = omega (arith, ints, div-add-mod' a n); below = mod_below a n p }
floor_quotient-IsFloorQuotient n (negsuc a) p = record {
  rest = n - 1 - a % n;
  whole = omega (arith, ints, product_is (negsuc (a / n)) (pos n), div-add-mod' a n, mod_below a n p);
  below = omega arith;
}

alone : (n : ℕ) (z q : ℤ) (r : ℕ) → z ≡ q *ℤ pos n +ℤ pos r → r < n → q ≡ floor_quotient z n
unfolding floor_quotient
alone n (pos a) (pos c) r e s = let is : a ≡ c * n + r = omega (arith, ints) in ap pos (sym (ap (λ x. x / n) is ∙ div-mul-add c n r s))
alone n (pos a) (negsuc c) r e s = absurd (omega (arith, ints, product_is (negsuc c) (pos n)))
alone n (negsuc a) (pos c) r e s = absurd (omega (arith, ints))
alone n (negsuc a) (negsuc c) r e s =
    let is : a ≡ c * n + (n - 1 - r) = omega (arith, ints, product_is (negsuc c) (pos n)) in
    ap negsuc (sym (ap (λ x. x / n) is ∙ div-mul-add c n (n - 1 - r) (omega arith)))

-- the floor quotient is the only number that leaves something from 0 to n - 1
pub floor_quotient_only : (n : ℕ) (z q : ℤ) → 0 < n → (q ≡ floor_quotient z n) ↔ IsFloorQuotient n z q
floor_quotient_only n z q p = (
  (λ e. subst (λ x. IsFloorQuotient n z x) (sym e) (floor_quotient-IsFloorQuotient n z p)),
  (λ h. alone n z q h.rest h.whole h.below),
)

pub floor_quotient_is : (z : ℤ) (k : ℕ) → floor_quotient z (2 ^ k) ≡ int_shr z k
unfolding floor_quotient
floor_quotient_is (pos a) k = refl
floor_quotient_is (negsuc a) k = refl

pub floor_quotient-Fits : (w : Width) (z : ℤ) (n : ℕ) → FitsSigned w z → FitsSigned w (floor_quotient z n)
unfolding floor_quotient
floor_quotient-Fits w (pos a) n f = record { sfits = omega (arith, mag_shr (pos a) n, f.sfits) }
floor_quotient-Fits w (negsuc a) n f = record { sfits = omega (arith, mag_shr (negsuc a) n, f.sfits) }

-- ---- the amount

pub shift_amount-lt : (w : Width) (by : ℤ) → shift_amount w by < bits w
shift_amount-lt w by = floor_modulus-lt by (bits w) (some w)
  where
    some : (u : Width) → 0 < bits u
    some w8 = omega arith
    some w16 = omega arith
    some w32 = omega arith
    some w64 = omega arith
    some w128 = omega arith

-- each width is a power of 2, and divides the count of numbers of each type
pub width_divides : (u w : Width) → (k : ℕ) × (2 ^ bits u ≡ k * bits w)
width_divides u w = (2 ^ (bits u - log w), ap (λ k. 2 ^ k) (split u w) ∙ pow-add 2 (bits u - log w) (log w) ∙ ap (λ n. 2 ^ (bits u - log w) * n) (is w))
  where
    log : Width → ℕ
    log w8 = 3
    log w16 = 4
    log w32 = 5
    log w64 = 6
    log w128 = 7

    is : (x : Width) → 2 ^ log x ≡ bits x
    is w8 = refl
    is w16 = refl
    is w32 = refl
    is w64 = refl
    is w128 = refl

    small : (x : Width) → log x ≤ 8
    small w8 = omega arith
    small w16 = omega arith
    small w32 = omega arith
    small w64 = omega arith
    small w128 = omega arith

    large : (x : Width) → 8 ≤ bits x
    large w8 = omega arith
    large w16 = omega arith
    large w32 = omega arith
    large w64 = omega arith
    large w128 = omega arith

    split : (x y : Width) → bits x ≡ bits x - log y + log y
    split x y = omega (arith, large x, small y)

-- the amount may be taken from the bits of a number of any width
pub shift_amount-cast_unsigned : (u w : Width) (by : ℤ) → FitsSigned u by → cast_unsigned u by % bits w ≡ shift_amount w by
shift_amount-cast_unsigned u w by f =
    let d = width_divides u w in
    sym (floor_modulus_by_nat (bits w) by _ (omega (arith, shift_amount-lt w by))
    (Congruent-factor (bits w) d.0 _ _ (subst (λ n. Congruent n by (pos (cast_unsigned u by))) d.1 (cast_unsigned-Congruent u by f))))

-- to convert the amount on the way changes nothing
pub shift_amount-to_signed : (u w : Width) (by : ℤ) → shift_amount w (to_signed u by) ≡ shift_amount w by
shift_amount-to_signed u w by =
    let d = width_divides u w in
    floor_modulus_same (bits w) _ _ (omega (arith, shift_amount-lt w by))
    (Congruent-sym _ _ _ (Congruent-factor (bits w) d.0 _ _ (subst (λ n. Congruent n by (to_signed u by)) d.1 (to_signed-Congruent u by))))

pub left_shift_only : (w : Width) (v by r : ℤ) → (r ≡ left_shift w v by) ↔ IsWrapped w (v *ℤ pos (2 ^ shift_amount w by)) r
unfolding left_shift
left_shift_only w v by r = to_signed_only w (v *ℤ pos (2 ^ shift_amount w by)) r

pub right_shift_only : (w : Width) (v by q : ℤ) → (q ≡ right_shift w v by) ↔ IsFloorQuotient (2 ^ shift_amount w by) v q
unfolding right_shift
right_shift_only w v by q = floor_quotient_only (2 ^ shift_amount w by) v q (pow_pos (shift_amount w by))

pub zero_filled_shift_only : (w : Width) (v by r : ℤ) → (r ≡ zero_filled_shift w v by) ↔ IsWrapped w (floor_quotient (pos (to_unsigned w v)) (2 ^ shift_amount w by)) r
unfolding zero_filled_shift floor_quotient
zero_filled_shift_only w v by r = to_signed_only w (pos (to_unsigned w v / 2 ^ shift_amount w by)) r
