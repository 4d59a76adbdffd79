-- Division that rounds toward 0, and its two ends: the least number by -1, and everything else.
use Rattle.std.proofs.Common.{◌≡◌, ◌≢◌, ℕ, zero, suc, ◌+◌, ◌*◌, ◌/◌, ◌%◌, ◌^◌, ◌<◌, ◌≤◌, ℤ, pos, negsuc, ◌+ℤ◌, ◌-ℤ◌, ◌*ℤ◌, neg_ℤ, ◌≤ℤ◌, refl, sym, ap, subst, ◌∙◌, ◌↔◌, arith}
use Rattle.std.specs.Prelude.{FitsSigned, unsigned_abs, int_div, int_rem}
use Rattle.std.specs.Int.{Width}
use Rattle.std.proofs.lemmas.Int.{ints, quot-rem, rem_below}
use Rattle.std.proofs.lemmas.Nat.{div-mul-add, mod-mul-add, div-add-mod', mod_below, pow_pos}
use mir.Val.{hbits}
use lib.Signed.{mag_rem}
use borrow.Author.Differences.{up, down, neg_is, product_is}
use Rattle.cm_number.specs.Conversion.{to_signed}
use Rattle.cm_number.specs.Division.{truncated_quotient, quotient, remainder, IsTruncatedDivision, least}
use Rattle.cm_number.proofs.Conversions.{half_range_is, range_doubles, to_signed_fits, to_signed_from}

pub truncated_quotient_is : (v d : ℤ) → truncated_quotient v d ≡ int_div v d
unfolding truncated_quotient
truncated_quotient_is (pos a) (pos b) = refl
truncated_quotient_is (pos a) (negsuc b) = refl
truncated_quotient_is (negsuc a) (pos b) = refl
truncated_quotient_is (negsuc a) (negsuc b) = refl

left_over : (v p r : ℤ) → p +ℤ r ≡ v → v -ℤ p ≡ r
left_over v p r e = omega (arith, ints)

pub remainder_is : (v d : ℤ) → remainder v d ≡ int_rem v d
unfolding remainder
remainder_is v d = ap (λ q. v -ℤ q *ℤ d) (truncated_quotient_is v d) ∙ left_over v (int_div v d *ℤ d) (int_rem v d) (quot-rem v d)

not_below_of : (v d : ℤ) → pos 0 ≤ℤ v → pos 0 ≤ℤ int_rem v d
not_below_of (pos a) d h = omega (arith, ints)
not_below_of (negsuc a) d h = absurd h.le

not_above_of : (v d : ℤ) → v ≤ℤ pos 0 → int_rem v d ≤ℤ pos 0
not_above_of (pos zero) d h = omega (arith, ints)
not_above_of (pos (suc a)) d h = absurd (omega (arith, ints, h))
not_above_of (negsuc a) d h = omega (arith, ints)

divides : (v d : ℤ) → 0 < unsigned_abs d → IsTruncatedDivision v d (int_div v d) (int_rem v d)
divides v d h = record {
  whole = sym (quot-rem v d);
  smaller = rem_below v d h;
  not_below = not_below_of v d;
  not_above = not_above_of v d;
}

-- a quotient and a remainder that divide a number that is not below 0
alone : (a : ℕ) (d q r : ℤ) → pos a ≡ q *ℤ d +ℤ r → unsigned_abs r < unsigned_abs d → pos 0 ≤ℤ r → (q ≡ int_div (pos a) d) × (r ≡ int_rem (pos a) d)
alone a d q (negsuc r) e s p = absurd p.le
alone a (pos b) (pos c) (pos r) e s p =
    let is : a ≡ c * b + r = omega (arith, ints) in
    (ap pos (sym (ap (λ x. x / b) is ∙ div-mul-add c b r s)), ap pos (sym (ap (λ x. x % b) is ∙ mod-mul-add c b r s)))
alone a (pos b) (negsuc c) (pos r) e s p = absurd (omega (arith, ints, product_is (negsuc c) (pos b)))
alone a (negsuc b) (pos zero) (pos r) e s p =
    let is : a ≡ 0 * suc b + r = omega (arith, ints) in
    (ap (λ x. neg_ℤ (pos x)) (sym (ap (λ x. x / suc b) is ∙ div-mul-add 0 (suc b) r s)), ap pos (sym (ap (λ x. x % suc b) is ∙ mod-mul-add 0 (suc b) r s)))
alone a (negsuc b) (pos (suc c)) (pos r) e s p = absurd (omega (arith, ints, product_is (pos (suc c)) (negsuc b)))
alone a (negsuc b) (negsuc c) (pos r) e s p =
    let is : a ≡ suc c * suc b + r = omega (arith, ints) in
    (ap (λ x. neg_ℤ (pos x)) (sym (ap (λ x. x / suc b) is ∙ div-mul-add (suc c) (suc b) r s)), ap pos (sym (ap (λ x. x % suc b) is ∙ mod-mul-add (suc c) (suc b) r s)))

negated : (a : ℕ) (d q r : ℤ) → negsuc a ≡ q *ℤ d +ℤ r → pos (suc a) ≡ neg_ℤ q *ℤ d +ℤ neg_ℤ r
negated a d q r e = omega (arith, ints, product_is q d, product_is (neg_ℤ q) d, ap (λ x. x * up d) (neg_is q).0, ap (λ x. x * up d) (neg_is q).1, ap (λ x. x * down d) (neg_is q).0, ap (λ x. x * down d) (neg_is q).1)

back : (x y : ℤ) → neg_ℤ x ≡ y → x ≡ neg_ℤ y
back x y e = omega (arith, ints)

turned_div : (a : ℕ) (d : ℤ) → neg_ℤ (int_div (pos (suc a)) d) ≡ int_div (negsuc a) d
turned_div a (pos b) = refl
turned_div a (negsuc b) = omega (arith, ints)

pub truncated_division_from : (v d q r : ℤ) → IsTruncatedDivision v d q r → (q ≡ int_div v d) × (r ≡ int_rem v d)
truncated_division_from (pos a) d q r t = alone a d q r t.whole t.smaller (t.not_below (omega (arith, ints)))
truncated_division_from (negsuc a) d q r t =
    let low : r ≤ℤ pos 0 = t.not_above (omega (arith, ints)) in
    let small : unsigned_abs (neg_ℤ r) < unsigned_abs d = omega (arith, ints, t.smaller) in
    let both = alone (suc a) d (neg_ℤ q) (neg_ℤ r) (negated a d q r t.whole) small (omega (arith, ints)) in
    (back q _ both.0 ∙ turned_div a d, back r _ both.1)

-- the truncated quotient and the remainder are the only two numbers that divide v by d with rounding toward 0
pub truncated_division_only : (v d q r : ℤ) → d ≢ pos 0 → ((q ≡ truncated_quotient v d) × (r ≡ remainder v d)) ↔ IsTruncatedDivision v d q r
truncated_division_only v d q r h = (
  (λ e. subst (λ x. IsTruncatedDivision v d x r) (sym (e.0 ∙ truncated_quotient_is v d))
      (subst (λ x. IsTruncatedDivision v d (int_div v d) x) (sym (e.1 ∙ remainder_is v d)) (divides v d (size d h)))),
  (λ t. let both = truncated_division_from v d q r t in (both.0 ∙ sym (truncated_quotient_is v d), both.1 ∙ sym (remainder_is v d))),
)
  where
    size : (y : ℤ) → y ≢ pos 0 → 0 < unsigned_abs y
    size (pos zero) n = absurd (n refl)
    size (pos (suc b)) n = omega arith
    size (negsuc b) n = omega arith

-- ---- at a signed type

div_le : (a b : ℕ) → a / b ≤ a
div_le a zero = omega (arith, div-add-mod' a zero)
div_le a (suc b) = omega (arith, div-add-mod' a (suc b))

half_or_less : (a b : ℕ) → suc a / suc (suc b) ≤ a
half_or_less a b = omega (arith, div-add-mod' (suc a) (suc (suc b)))

div_one : (n : ℕ) → n / 1 ≡ n
div_one n = omega (arith, div-add-mod' n 1, mod_below n 1)

-- the quotient of two numbers of the type is of the type, except that of the least number by -1
pub int_div-Fits : (w : Width) (v d : ℤ) → FitsSigned w v → ((v ≡ least w) × (d ≡ negsuc 0) → ⊥) → FitsSigned w (int_div v d)
int_div-Fits w (pos a) (pos b) f n = omega (arith, ints, f, div_le a b)
int_div-Fits w (pos a) (negsuc b) f n = omega (arith, ints, f, div_le a (suc b))
int_div-Fits w (negsuc a) (pos b) f n = omega (arith, ints, f, div_le (suc a) b)
int_div-Fits w (negsuc a) (negsuc zero) f n =
    let other : suc a ≢ 2 ^ hbits w = λ e. n ((omega (arith, ints, e, half_range_is w)), refl) in
    omega (arith, ints, f, other, div_one (suc a))
int_div-Fits w (negsuc a) (negsuc (suc b)) f n = omega (arith, ints, f, half_or_less a b)

pub quotient_is : (w : Width) (v d : ℤ) → FitsSigned w v → ((v ≡ least w) × (d ≡ negsuc 0) → ⊥) → quotient w v d ≡ truncated_quotient v d
unfolding quotient
quotient_is w v d f n = to_signed_fits w _ (subst (λ x. FitsSigned w x) (sym (truncated_quotient_is v d)) (int_div-Fits w v d f n))

pub int_div_minus_one : (v : ℤ) → int_div v (negsuc 0) ≡ neg_ℤ v
int_div_minus_one (pos a) = ap (λ n. neg_ℤ (pos n)) (div_one a)
int_div_minus_one (negsuc a) = ap pos (div_one (suc a))

-- by -1 the quotient is the negated number, wrapped
pub quotient_minus_one : (w : Width) (v : ℤ) → quotient w v (negsuc 0) ≡ to_signed w (neg_ℤ v)
unfolding quotient
quotient_minus_one w v = ap (to_signed w) (truncated_quotient_is v (negsuc 0) ∙ int_div_minus_one v)

pub remainder_minus_one : (v : ℤ) → remainder v (negsuc 0) ≡ pos 0
unfolding remainder
remainder_minus_one v = ap (λ q. v -ℤ q *ℤ negsuc 0) (truncated_quotient_is v (negsuc 0) ∙ int_div_minus_one v) ∙ omega (arith, ints, product_is (neg_ℤ v) (negsuc 0))

pub least-Fits : (w : Width) → FitsSigned w (least w)
least-Fits w = omega (arith, ints, half_range_is w, pow_pos (hbits w))

pub quotient_least : (w : Width) → quotient w (least w) (negsuc 0) ≡ least w
quotient_least w = quotient_minus_one w (least w) ∙ sym (to_signed_from w (neg_ℤ (least w)) (least w) (least-Fits w)
    (record { first = 0; second = 1; meet = omega (arith, ints, half_range_is w, range_doubles w) }))

pub remainder-Fits : (w : Width) (v d : ℤ) → FitsSigned w v → FitsSigned w (remainder v d)
remainder-Fits w v d f = subst (λ x. FitsSigned w x) (sym (remainder_is v d)) (record { sfits = omega (arith, mag_rem v d, f.sfits) })

pub remainder_least : (w : Width) → remainder (least w) (negsuc 0) ≡ pos 0
remainder_least w = remainder_minus_one (least w)
