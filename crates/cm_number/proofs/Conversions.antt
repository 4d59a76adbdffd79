-- Conversion to a signed type, the two's complement, and the nearest number of a range.
use Rattle.std.proofs.Common.{◌≡◌, ℕ, ◌+◌, ◌-◌, ◌*◌, ◌^◌, ◌<◌, ◌≤◌, ℤ, pos, negsuc, ◌+ℤ◌, ◌-ℤ◌, ◌*ℤ◌, neg_ℤ, refl, sym, ap, subst, ◌∙◌, ◌↔◌, arith}
use Rattle.std.specs.Prelude.{FitsSigned, unsigned_abs}
use Rattle.std.specs.Int.{Width, w8, w16, w32, w64, w128, cast_unsigned, cast_signed, int_rem_euclid}
use Rattle.std.specs.Int.{int_wrap}
use Rattle.std.proofs.lemmas.Int.{ints, of_z-to_z}
use Rattle.std.proofs.lemmas.Nat.{pow_pos, pow-add}
use mir.Val.{bits, hbits}
use borrow.Author.Differences.{up, down, fits_in, read_fits}
use Rattle.cm_number.specs.Conversion.{floor_modulus, half_range, to_signed, to_unsigned, IsWrapped, IsFloorModulus}
use Rattle.cm_number.proofs.Modulus.{Congruent, Congruent-refl, Congruent-sym, Congruent-trans, Congruent-add, Congruent-neg, Congruent-sub, Congruent-mul, Congruent-factor, from_same_modulo, to_same_modulo, floor_modulus-lt, floor_modulus-Congruent, floor_modulus_same, floor_modulus_from, floor_modulus_only}

-- ---- the range of a signed type

pub half_range_is : (w : Width) → half_range w ≡ 2 ^ hbits w
half_range_is w8 = refl
half_range_is w16 = refl
half_range_is w32 = refl
half_range_is w64 = refl
half_range_is w128 = refl

pub range_doubles : (w : Width) → 2 ^ bits w ≡ 2 ^ hbits w + 2 ^ hbits w
range_doubles w8 = refl
range_doubles w16 = refl
range_doubles w32 = refl
range_doubles w64 = refl
range_doubles w128 = refl

-- ---- conversion to a signed type

pub to_signed-Fits : (w : Width) (z : ℤ) → FitsSigned w (to_signed w z)
unfolding to_signed
to_signed-Fits w z = omega (arith, ints, half_range_is w, range_doubles w, floor_modulus-lt (z +ℤ pos (half_range w)) (2 ^ bits w) (pow_pos (bits w)))

pub to_signed-Congruent : (w : Width) (z : ℤ) → Congruent (2 ^ bits w) z (to_signed w z)
unfolding to_signed
to_signed-Congruent w z =
    let c = floor_modulus-Congruent (z +ℤ pos (half_range w)) (2 ^ bits w) (pow_pos (bits w)) in
    record { first = c.first; second = c.second; meet = omega (arith, ints, c.meet) }

-- a number of the type that differs from z by a multiple of 2 ^ bits is what z is converted to
pub to_signed_from : (w : Width) (z r : ℤ) → FitsSigned w r → Congruent (2 ^ bits w) z r → r ≡ to_signed w z
unfolding to_signed
to_signed_from w z r f c =
    let m = up r + half_range w - down r in
    let e : r +ℤ pos (half_range w) ≡ pos m = omega (arith, ints, half_range_is w) in
    let small : m < 2 ^ bits w = omega (arith, ints, half_range_is w, range_doubles w) in
    let moved : Congruent (2 ^ bits w) (z +ℤ pos (half_range w)) (pos m) = record { first = c.first; second = c.second; meet = omega (arith, ints, c.meet, e) } in
    let is = floor_modulus_from (2 ^ bits w) (z +ℤ pos (half_range w)) m small moved in
    omega (arith, ints, e, is)

pub to_signed_same : (w : Width) (a b : ℤ) → Congruent (2 ^ bits w) a b → to_signed w a ≡ to_signed w b
to_signed_same w a b c = to_signed_from w b (to_signed w a) (to_signed-Fits w a)
    (Congruent-trans _ _ _ _ (Congruent-sym _ _ _ c) (to_signed-Congruent w a))

pub to_signed_fits : (w : Width) (z : ℤ) → FitsSigned w z → to_signed w z ≡ z
to_signed_fits w z f = sym (to_signed_from w z z f (Congruent-refl _ z))

pub to_signed_only : (w : Width) (z r : ℤ) → (r ≡ to_signed w z) ↔ IsWrapped w z r
to_signed_only w z r = (
  (λ e. subst (λ x. IsWrapped w z x) (sym e) (record { fits = to_signed-Fits w z; same = to_same_modulo _ _ _ (to_signed-Congruent w z) })),
  (λ h. to_signed_from w z r h.fits (from_same_modulo _ _ _ h.same)),
)

-- ---- to wrap on the way changes nothing

from_wrapped : (w : Width) (z : ℤ) → Congruent (2 ^ bits w) (to_signed w z) z
from_wrapped w z = Congruent-sym _ _ _ (to_signed-Congruent w z)

pub to_signed-to_signed : (w : Width) (z : ℤ) → to_signed w (to_signed w z) ≡ to_signed w z
to_signed-to_signed w z = to_signed_fits w _ (to_signed-Fits w z)

pub to_signed-add_left : (w : Width) (a b : ℤ) → to_signed w (to_signed w a +ℤ b) ≡ to_signed w (a +ℤ b)
to_signed-add_left w a b = to_signed_same w _ _ (Congruent-add _ _ a b b (from_wrapped w a) (Congruent-refl _ b))

pub to_signed-add_right : (w : Width) (a b : ℤ) → to_signed w (a +ℤ to_signed w b) ≡ to_signed w (a +ℤ b)
to_signed-add_right w a b = to_signed_same w _ _ (Congruent-add _ a a _ b (Congruent-refl _ a) (from_wrapped w b))

pub to_signed-sub_left : (w : Width) (a b : ℤ) → to_signed w (to_signed w a -ℤ b) ≡ to_signed w (a -ℤ b)
to_signed-sub_left w a b = to_signed_same w _ _ (Congruent-sub _ _ a b b (from_wrapped w a) (Congruent-refl _ b))

pub to_signed-sub_right : (w : Width) (a b : ℤ) → to_signed w (a -ℤ to_signed w b) ≡ to_signed w (a -ℤ b)
to_signed-sub_right w a b = to_signed_same w _ _ (Congruent-sub _ a a _ b (Congruent-refl _ a) (from_wrapped w b))

pub to_signed-mul_left : (w : Width) (a b : ℤ) → to_signed w (to_signed w a *ℤ b) ≡ to_signed w (a *ℤ b)
to_signed-mul_left w a b = to_signed_same w _ _ (Congruent-mul _ _ a b b (from_wrapped w a) (Congruent-refl _ b))

pub to_signed-mul_right : (w : Width) (a b : ℤ) → to_signed w (a *ℤ to_signed w b) ≡ to_signed w (a *ℤ b)
to_signed-mul_right w a b = to_signed_same w _ _ (Congruent-mul _ a a _ b (Congruent-refl _ a) (from_wrapped w b))

pub to_signed-neg : (w : Width) (a : ℤ) → to_signed w (neg_ℤ (to_signed w a)) ≡ to_signed w (neg_ℤ a)
to_signed-neg w a = to_signed_same w _ _ (Congruent-neg _ _ a (from_wrapped w a))

-- conversion to a wider type and then to a narrower one is conversion to the narrower one
pub to_signed-narrow : (narrow wide : Width) (z : ℤ) → bits narrow ≤ bits wide → to_signed narrow (to_signed wide z) ≡ to_signed narrow z
to_signed-narrow narrow wide z h =
    let split : 2 ^ bits wide ≡ 2 ^ (bits wide - bits narrow) * 2 ^ bits narrow =
    ap (λ k. 2 ^ k) (omega arith) ∙ pow-add 2 (bits wide - bits narrow) (bits narrow) in
    to_signed_same narrow _ _ (Congruent-factor (2 ^ bits narrow) (2 ^ (bits wide - bits narrow)) _ _
    (subst (λ n. Congruent n (to_signed wide z) z) split (from_wrapped wide z)))

-- to wrap a number of the type on the way leaves its floor modulus by any n
pub floor_modulus-to_signed : (w : Width) (z : ℤ) (n : ℕ) → FitsSigned w z → floor_modulus (to_signed w z) n ≡ floor_modulus z n
floor_modulus-to_signed w z n f = ap (λ y. floor_modulus y n) (to_signed_fits w z f)

-- ---- the two's complement

pub cast_unsigned-lt : (w : Width) (z : ℤ) → FitsSigned w z → cast_unsigned w z < 2 ^ bits w
cast_unsigned-lt w (pos n) f = omega (arith, f.sfits, range_doubles w)
cast_unsigned-lt w (negsuc n) f = omega (arith, f.sfits, pow_pos (bits w))

pub cast_unsigned-Congruent : (w : Width) (z : ℤ) → FitsSigned w z → Congruent (2 ^ bits w) z (pos (cast_unsigned w z))
cast_unsigned-Congruent w (pos n) f = Congruent-refl _ (pos n)
cast_unsigned-Congruent w (negsuc n) f = record { first = 1; second = 0; meet = omega (arith, ints, f.sfits, range_doubles w) }

pub to_unsigned_is : (w : Width) (z : ℤ) → FitsSigned w z → to_unsigned w z ≡ cast_unsigned w z
unfolding to_unsigned
to_unsigned_is w z f = sym (floor_modulus_from _ z _ (cast_unsigned-lt w z f) (cast_unsigned-Congruent w z f))

pub to_unsigned-lt : (w : Width) (z : ℤ) → to_unsigned w z < 2 ^ bits w
unfolding to_unsigned
to_unsigned-lt w z = floor_modulus-lt z _ (pow_pos (bits w))

pub to_unsigned-Congruent : (w : Width) (z : ℤ) → Congruent (2 ^ bits w) z (pos (to_unsigned w z))
unfolding to_unsigned
to_unsigned-Congruent w z = floor_modulus-Congruent z _ (pow_pos (bits w))

-- the two's complement is the only number of 0 to 2 ^ bits - 1 that differs from z by a multiple of 2 ^ bits
pub to_unsigned_only : (w : Width) (z : ℤ) (r : ℕ) → (r ≡ to_unsigned w z) ↔ IsFloorModulus (2 ^ bits w) z (pos r)
unfolding to_unsigned
to_unsigned_only w z r = floor_modulus_only (2 ^ bits w) z r (pow_pos (bits w))

-- the bits of the converted number
pub cast_unsigned-to_signed : (w : Width) (z : ℤ) → cast_unsigned w (to_signed w z) ≡ to_unsigned w z
unfolding to_unsigned
cast_unsigned-to_signed w z = sym (to_unsigned_is w _ (to_signed-Fits w z)) ∙ floor_modulus_same _ _ _ (pow_pos (bits w)) (from_wrapped w z)

pub cast_signed-Fits : (w : Width) (n : ℕ) → FitsSigned w (cast_signed w n)
cast_signed-Fits w n = omega (arith, fits_in, read_fits w n)

-- reading bits as signed is conversion
pub cast_signed_is : (w : Width) (n : ℕ) → n < 2 ^ bits w → cast_signed w n ≡ to_signed w (pos n)
cast_signed_is w n h = to_signed_from w (pos n) _ (cast_signed-Fits w n)
    (Congruent-sym _ _ _ (subst (λ m. Congruent (2 ^ bits w) (cast_signed w n) (pos m)) (of_z-to_z w n h) (cast_unsigned-Congruent w _ (cast_signed-Fits w n))))

pub to_signed-to_unsigned : (w : Width) (z : ℤ) → to_signed w (pos (to_unsigned w z)) ≡ to_signed w z
to_signed-to_unsigned w z = to_signed_same w _ _ (Congruent-sym _ _ _ (to_unsigned-Congruent w z))

pub cast_signed-to_unsigned : (w : Width) (z : ℤ) → cast_signed w (to_unsigned w z) ≡ to_signed w z
cast_signed-to_unsigned w z = cast_signed_is w _ (to_unsigned-lt w z) ∙ to_signed-to_unsigned w z

-- ---- std's words

pub floor_modulus_is : (z : ℤ) (n : ℕ) → floor_modulus z n ≡ unsigned_abs (int_rem_euclid z (pos n))
unfolding floor_modulus
floor_modulus_is (pos a) n = refl
floor_modulus_is (negsuc a) n = refl

pub int_wrap_is : (w : Width) (z : ℤ) → int_wrap w z ≡ to_signed w z
unfolding int_wrap to_unsigned
int_wrap_is w z = ap (cast_signed w) (sym (floor_modulus_is z (2 ^ bits w))) ∙ cast_signed-to_unsigned w z
