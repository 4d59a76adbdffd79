-- The language's operators on whole numbers, and WebAssembly's instructions on bits. In each lemma a and b fit the width, and the instruction sees their bits, `cast_unsigned w a` and `cast_unsigned w b`.
use Rattle.std.proofs.Common.{◌≡◌, ℕ, zero, suc, ◌+◌, ◌-◌, ◌*◌, ◌/◌, ◌%◌, ◌^◌, ◌<◌, ◌≤◌, ℤ, pos, negsuc, ◌+ℤ◌, ◌-ℤ◌, ◌*ℤ◌, neg_ℤ, ◌≤ℤ◌, refl, sym, ap, subst, ◌∙◌, arith}
use Rattle.std.specs.Prelude.{FitsSigned, Bool, true, false, not, ◌==◌, if◌then◌else◌, int_lt, int_le, int_div, int_rem, unsigned_abs, bit_and, bit_or, bit_xor}
use Rattle.std.specs.Ordering.{int_eq}
use Rattle.std.specs.Int.{Width, w32, w64, cast_unsigned, cast_signed, int_shr, bit_at, bit_not}
use Rattle.std.proofs.lemmas.Int.{ints, to_z-of_z, quot-rem, rem_below}
use Rattle.std.proofs.lemmas.Nat.{pow_pos, or_lt, xor_lt, and_le_l, shr_le, mul-mod_second, pow-add}
use Rattle.std.proofs.lemmas.Bool.{ne_eqb}
use Rattle.std.proofs.lemmas.Bool.Decides.{Decides-eqb, Decides-int_eq, same_from_decides}
use Rattle.std.proofs.lemmas.Nat.Bits.{same_from_bits_below, bit_at_xor, bit_at_ones, bit_at_not, bit_at-lt}
use mir.Val.{bits}
use lib.Signed.{mag_rem}
use borrow.Author.Differences.{up, down, product_is}
use native.Mathlib.Nat.{mod-eq_of_lt}
use Rattle.cm_number.specs.Conversion.{to_signed, to_unsigned, to_bool, to_wrap, nearest}
use Rattle.cm_number.specs.Division.{quotient, remainder, least}
use Rattle.cm_number.specs.Shift.{shift_amount, left_shift, right_shift, zero_filled_shift}
use Rattle.cm_number.specs.Bitwise.{bitwise_and, bitwise_or, bitwise_xor, bitwise_not}
use Rattle.cm_number.proofs.Modulus.{Congruent, Congruent-factor, floor_modulus-add, floor_modulus-sub, floor_modulus-neg, floor_modulus-mul, floor_modulus-nat, floor_modulus_by_nat}
use Rattle.cm_number.proofs.Conversions.{range_doubles, cast_unsigned-lt, cast_unsigned-Congruent, cast_unsigned-to_signed, to_unsigned_is, to_unsigned-lt}
use Rattle.cm_number.proofs.Divisions.{truncated_quotient_is, remainder_is, quotient_is, quotient_minus_one, remainder_minus_one}
use Rattle.cm_number.proofs.Shifts.{floor_quotient_is}

-- ---- sums, differences and products

pub add_is : (w : Width) (a b : ℤ) → FitsSigned w a → FitsSigned w b → cast_unsigned w (to_signed w (a +ℤ b)) ≡ (cast_unsigned w a + cast_unsigned w b) % 2 ^ bits w
unfolding to_unsigned
add_is w a b f g = cast_unsigned-to_signed w (a +ℤ b) ∙ floor_modulus-add (2 ^ bits w) a b (pow_pos (bits w))
    ∙ (λ i. (to_unsigned_is w a f i + to_unsigned_is w b g i) % 2 ^ bits w)

pub sub_is : (w : Width) (a b : ℤ) → FitsSigned w a → FitsSigned w b → cast_unsigned w (to_signed w (a -ℤ b)) ≡ (cast_unsigned w a + (2 ^ bits w - cast_unsigned w b)) % 2 ^ bits w
unfolding to_unsigned
sub_is w a b f g = cast_unsigned-to_signed w (a -ℤ b) ∙ floor_modulus-sub (2 ^ bits w) a b (pow_pos (bits w))
    ∙ (λ i. (to_unsigned_is w a f i + (2 ^ bits w - to_unsigned_is w b g i)) % 2 ^ bits w)

-- `-a` is `0 - a`
pub neg_is : (w : Width) (a : ℤ) → FitsSigned w a → cast_unsigned w (to_signed w (neg_ℤ a)) ≡ (0 + (2 ^ bits w - cast_unsigned w a)) % 2 ^ bits w
unfolding to_unsigned
neg_is w a f = cast_unsigned-to_signed w (neg_ℤ a) ∙ floor_modulus-neg (2 ^ bits w) a (pow_pos (bits w))
    ∙ (λ i. (2 ^ bits w - to_unsigned_is w a f i) % 2 ^ bits w) ∙ ap (λ n. n % 2 ^ bits w) (omega arith)

pub mul_is : (w : Width) (a b : ℤ) → FitsSigned w a → FitsSigned w b → cast_unsigned w (to_signed w (a *ℤ b)) ≡ (cast_unsigned w a * cast_unsigned w b) % 2 ^ bits w
unfolding to_unsigned
mul_is w a b f g = cast_unsigned-to_signed w (a *ℤ b) ∙ floor_modulus-mul (2 ^ bits w) a b (pow_pos (bits w))
    ∙ (λ i. (to_unsigned_is w a f i * to_unsigned_is w b g i) % 2 ^ bits w)

-- ---- division

pub div_s_is : (w : Width) (a b : ℤ) → FitsSigned w a → FitsSigned w b → ((a ≡ least w) × (b ≡ negsuc 0) → ⊥)
    → cast_unsigned w (quotient w a b) ≡ cast_unsigned w (int_div (cast_signed w (cast_unsigned w a)) (cast_signed w (cast_unsigned w b)))
div_s_is w a b f g n = ap (cast_unsigned w) (quotient_is w a b f n ∙ truncated_quotient_is a b)
    ∙ (λ i. cast_unsigned w (int_div (sym (to_z-of_z w a f) i) (sym (to_z-of_z w b g) i)))

-- by -1, where `div_s` traps at the least number, the quotient is `0 - a`
pub div_minus_one_is : (w : Width) (a : ℤ) → FitsSigned w a → cast_unsigned w (quotient w a (negsuc 0)) ≡ (0 + (2 ^ bits w - cast_unsigned w a)) % 2 ^ bits w
div_minus_one_is w a f = ap (cast_unsigned w) (quotient_minus_one w a) ∙ neg_is w a f

pub rem_s_is : (w : Width) (a b : ℤ) → FitsSigned w a → FitsSigned w b
    → cast_unsigned w (remainder a b) ≡ cast_unsigned w (int_rem (cast_signed w (cast_unsigned w a)) (cast_signed w (cast_unsigned w b)))
rem_s_is w a b f g = ap (cast_unsigned w) (remainder_is a b)
    ∙ (λ i. cast_unsigned w (int_rem (sym (to_z-of_z w a f) i) (sym (to_z-of_z w b g) i)))

pub rem_minus_one_is : (w : Width) (a : ℤ) → cast_unsigned w (remainder a (negsuc 0)) ≡ 0
rem_minus_one_is w a = ap (cast_unsigned w) (remainder_minus_one a)

-- from 0 on the instructions on unsigned numbers serve too
pub div_u_is : (w : Width) (a b : ℤ) → FitsSigned w a → pos 0 ≤ℤ a → pos 0 ≤ℤ b → cast_unsigned w (quotient w a b) ≡ cast_unsigned w a / cast_unsigned w b
div_u_is w (negsuc a) b f p q = absurd p.le
div_u_is w (pos a) (negsuc b) f p q = absurd q.le
div_u_is w (pos a) (pos b) f p q = ap (cast_unsigned w) (quotient_is w (pos a) (pos b) f (λ e. minus e.1) ∙ truncated_quotient_is (pos a) (pos b))
  where
    minus : pos b ≡ negsuc 0 → ⊥
    minus e = cc

pub rem_u_is : (w : Width) (a b : ℤ) → pos 0 ≤ℤ a → pos 0 ≤ℤ b → cast_unsigned w (remainder a b) ≡ cast_unsigned w a % cast_unsigned w b
rem_u_is w (negsuc a) b p q = absurd p.le
rem_u_is w (pos a) (negsuc b) p q = absurd q.le
rem_u_is w (pos a) (pos b) p q = ap (cast_unsigned w) (remainder_is (pos a) (pos b))

-- ---- bits

-- bits that fit the width are the bits of the number that they are converted to
bits_back : (w : Width) (n : ℕ) → n < 2 ^ bits w → cast_unsigned w (to_signed w (pos n)) ≡ n
unfolding to_unsigned
bits_back w n h = cast_unsigned-to_signed w (pos n) ∙ floor_modulus-nat n (2 ^ bits w) ∙ mod-eq_of_lt h

pub and_is : (w : Width) (a b : ℤ) → FitsSigned w a → FitsSigned w b → cast_unsigned w (bitwise_and w a b) ≡ bit_and (cast_unsigned w a) (cast_unsigned w b)
unfolding bitwise_and
and_is w a b f g = bits_back w _ (omega (arith, and_le_l (to_unsigned w a) (to_unsigned w b), to_unsigned-lt w a)) ∙ (λ i. bit_and (to_unsigned_is w a f i) (to_unsigned_is w b g i))

pub or_is : (w : Width) (a b : ℤ) → FitsSigned w a → FitsSigned w b → cast_unsigned w (bitwise_or w a b) ≡ bit_or (cast_unsigned w a) (cast_unsigned w b)
unfolding bitwise_or
or_is w a b f g = bits_back w _ (or_lt (bits w) _ _ (to_unsigned-lt w a) (to_unsigned-lt w b)) ∙ (λ i. bit_or (to_unsigned_is w a f i) (to_unsigned_is w b g i))

pub xor_is : (w : Width) (a b : ℤ) → FitsSigned w a → FitsSigned w b → cast_unsigned w (bitwise_xor w a b) ≡ bit_xor (cast_unsigned w a) (cast_unsigned w b)
unfolding bitwise_xor
xor_is w a b f g = bits_back w _ (xor_lt (bits w) _ _ (to_unsigned-lt w a) (to_unsigned-lt w b)) ∙ (λ i. bit_xor (to_unsigned_is w a f i) (to_unsigned_is w b g i))

-- `~a` is `a ^ -1`
xor_ones : (w : Width) (n : ℕ) → n < 2 ^ bits w → bit_xor n (2 ^ bits w - 1) ≡ bit_not w n
xor_ones w n h = same_from_bits_below (bits w) _ _ (xor_lt (bits w) n _ h (omega (arith, pow_pos (bits w)))) (omega (arith, pow_pos (bits w)))
    (λ i small. bit_at_xor n (2 ^ bits w - 1) i ∙ ap (λ x. (bit_at n i + x) % 2) (bit_at_ones (bits w) i small)
    ∙ flip (bit_at n i) (bit_at-lt n i) ∙ sym (bit_at_not w n i h small))
  where
    flip : (b : ℕ) → b < 2 → (b + 1) % 2 ≡ 1 - b
    flip b q = omega arith

not_bits : (w : Width) (a : ℤ) → FitsSigned w a → cast_unsigned w (neg_ℤ a -ℤ pos 1) ≡ 2 ^ bits w - 1 - cast_unsigned w a
not_bits w (pos zero) f = omega arith
not_bits w (pos (suc n)) f = omega arith
not_bits w (negsuc n) f =
    let back : pos (suc n) -ℤ pos 1 ≡ pos n = omega (arith, ints) in
    ap (cast_unsigned w) back ∙ omega (arith, f.sfits, range_doubles w)

pub not_is : (w : Width) (a : ℤ) → FitsSigned w a → cast_unsigned w (bitwise_not a) ≡ bit_xor (cast_unsigned w a) (2 ^ bits w - 1)
unfolding bitwise_not
not_is w a f = not_bits w a f ∙ sym (xor_ones w (cast_unsigned w a) (cast_unsigned-lt w a f))

-- ---- shifts, by any bits y that give the amount

pub shl_is : (w : Width) (a by : ℤ) (y : ℕ) → FitsSigned w a → y % bits w ≡ shift_amount w by → cast_unsigned w (left_shift w a by) ≡ (cast_unsigned w a * 2 ^ (y % bits w)) % 2 ^ bits w
unfolding left_shift to_unsigned
shl_is w a by y f e = cast_unsigned-to_signed w _ ∙ floor_modulus-mul (2 ^ bits w) a (pos (2 ^ shift_amount w by)) (pow_pos (bits w))
    ∙ ap (λ n. (to_unsigned w a * n) % 2 ^ bits w) (floor_modulus-nat (2 ^ shift_amount w by) (2 ^ bits w))
    ∙ mul-mod_second (to_unsigned w a) (2 ^ shift_amount w by) (2 ^ bits w)
    ∙ (λ i. (to_unsigned_is w a f i * 2 ^ sym e i) % 2 ^ bits w)

pub shr_s_is : (w : Width) (a by : ℤ) (y : ℕ) → FitsSigned w a → y % bits w ≡ shift_amount w by → cast_unsigned w (right_shift w a by) ≡ cast_unsigned w (int_shr (cast_signed w (cast_unsigned w a)) (y % bits w))
unfolding right_shift
shr_s_is w a by y f e = ap (cast_unsigned w) (floor_quotient_is a (shift_amount w by)) ∙ (λ i. cast_unsigned w (int_shr (sym (to_z-of_z w a f) i) (sym e i)))

pub shr_u_is : (w : Width) (a by : ℤ) (y : ℕ) → FitsSigned w a → y % bits w ≡ shift_amount w by → cast_unsigned w (zero_filled_shift w a by) ≡ cast_unsigned w a / 2 ^ (y % bits w)
unfolding zero_filled_shift
shr_u_is w a by y f e = bits_back w _ (omega (arith, shr_le (to_unsigned w a) (shift_amount w by), to_unsigned-lt w a)) ∙ (λ i. to_unsigned_is w a f i / 2 ^ sym e i)

-- ---- comparisons

pub same_bits : (w : Width) (a b : ℤ) → FitsSigned w a → FitsSigned w b → cast_unsigned w a ≡ cast_unsigned w b → a ≡ b
same_bits w a b f g e = sym (to_z-of_z w a f) ∙ ap (cast_signed w) e ∙ to_z-of_z w b g

pub eq_is : (w : Width) (a b : ℤ) → FitsSigned w a → FitsSigned w b → (cast_unsigned w a == cast_unsigned w b) ≡ int_eq a b
eq_is w a b f g =
    let d = Decides-eqb (cast_unsigned w a) (cast_unsigned w b) in
    same_from_decides {P = a ≡ b} _ _ ((λ t. same_bits w a b f g (d.0 t)), (λ e. d.1 (ap (cast_unsigned w) e))) (Decides-int_eq a b)

pub lt_s_is : (w : Width) (a b : ℤ) → FitsSigned w a → FitsSigned w b → int_lt (cast_signed w (cast_unsigned w a)) (cast_signed w (cast_unsigned w b)) ≡ int_lt a b
lt_s_is w a b f g = λ i. int_lt (to_z-of_z w a f i) (to_z-of_z w b g i)

pub le_s_is : (w : Width) (a b : ℤ) → FitsSigned w a → FitsSigned w b → int_le (cast_signed w (cast_unsigned w a)) (cast_signed w (cast_unsigned w b)) ≡ int_le a b
le_s_is w a b f g = λ i. int_le (to_z-of_z w a f i) (to_z-of_z w b g i)

pub gt_s_is : (w : Width) (a b : ℤ) → FitsSigned w a → FitsSigned w b → int_lt (cast_signed w (cast_unsigned w b)) (cast_signed w (cast_unsigned w a)) ≡ int_lt b a
gt_s_is w a b f g = lt_s_is w b a g f

pub ge_s_is : (w : Width) (a b : ℤ) → FitsSigned w a → FitsSigned w b → int_le (cast_signed w (cast_unsigned w b)) (cast_signed w (cast_unsigned w a)) ≡ int_le b a
ge_s_is w a b f g = le_s_is w b a g f

-- ---- conversions

-- the bits at a narrower type are the low bits at the wider one
pub narrowed_is : (narrow wide : Width) (a : ℤ) → bits narrow ≤ bits wide → FitsSigned wide a → cast_unsigned narrow (to_signed narrow a) ≡ cast_unsigned wide a % 2 ^ bits narrow
unfolding to_unsigned
narrowed_is narrow wide a h f =
    let split : 2 ^ bits wide ≡ 2 ^ (bits wide - bits narrow) * 2 ^ bits narrow =
    ap (λ k. 2 ^ k) (omega arith) ∙ pow-add 2 (bits wide - bits narrow) (bits narrow) in
    cast_unsigned-to_signed narrow a ∙ floor_modulus_by_nat (2 ^ bits narrow) a _ (pow_pos (bits narrow))
    (Congruent-factor (2 ^ bits narrow) (2 ^ (bits wide - bits narrow)) _ _ (subst (λ n. Congruent n a (pos (cast_unsigned wide a))) split (cast_unsigned-Congruent wide a f)))

pub wrap_i64_is : (a : ℤ) → FitsSigned w64 a → cast_unsigned w32 (to_signed w32 a) ≡ cast_unsigned w64 a % 2 ^ 32
wrap_i64_is a f = narrowed_is w32 w64 a (omega arith) f

pub extend_i32_s_is : (a : ℤ) → FitsSigned w32 a → cast_unsigned w64 a ≡ cast_unsigned w64 (cast_signed w32 (cast_unsigned w32 a))
extend_i32_s_is a f = ap (cast_unsigned w64) (sym (to_z-of_z w32 a f))

pub extend_i32_u_is : (a : ℤ) → pos 0 ≤ℤ a → cast_unsigned w64 a ≡ cast_unsigned w32 a
extend_i32_u_is (pos n) h = refl
extend_i32_u_is (negsuc n) h = absurd h.le

-- `eqz` tells whether the conversion to `bool` is false
pub eqz_is : (w : Width) (a : ℤ) → FitsSigned w a → (cast_unsigned w a == 0) ≡ not (to_bool a)
unfolding to_bool
eqz_is w (pos zero) f = refl
eqz_is w (pos (suc n)) f = ne_eqb (suc n) 0 (omega arith)
eqz_is w (negsuc n) f = ne_eqb (2 ^ bits w - suc n) 0 (omega (arith, f.sfits, range_doubles w))

-- the conversion to `wrap<n>`, and an index of n elements: the remainder, raised by n, and the remainder of that from 0 on
pub to_wrap_is : (w : Width) (n : ℕ) (a : ℤ) → 0 < n → FitsSigned w (pos n) → FitsSigned w a
    → cast_unsigned w (to_wrap n a) ≡ (cast_unsigned w (int_rem (cast_signed w (cast_unsigned w a)) (cast_signed w n)) + n) % 2 ^ bits w % n
unfolding to_wrap to_unsigned
to_wrap_is w n a p g f =
    let q = int_div a (pos n) in
    let r = int_rem a (pos n) in
    let whole : q *ℤ pos n +ℤ r ≡ a = quot-rem a (pos n) in
    let small : unsigned_abs r < n = rem_below a (pos n) p in
    let t = up r + n - down r in
    let raised : r +ℤ pos n ≡ pos t = omega (arith, ints, small) in
    let fits : FitsSigned w r = record { sfits = omega (arith, mag_rem a (pos n), f.sfits) } in
    let low : t < 2 ^ bits w = omega (arith, ints, small, g.sfits, range_doubles w) in
    let meets : Congruent n a (pos t) = record { first = down q + 1; second = up q; meet = omega (arith, ints, whole, raised, product_is q (pos n)) } in
    floor_modulus_by_nat n a t p meets
    ∙ ap (λ x. x % n) (sym (mod-eq_of_lt low) ∙ sym (floor_modulus-nat t (2 ^ bits w)) ∙ sym (cast_unsigned-to_signed w (pos t))
    ∙ ap (λ y. cast_unsigned w (to_signed w y)) (sym raised) ∙ add_is w r (pos n) fits g)
    ∙ (λ i. (cast_unsigned w (int_rem (sym (to_z-of_z w a f) i) (sym (to_z-of_z w (pos n) g) i)) + n) % 2 ^ bits w % n)

select_bits : (w : Width) (t : Bool) (x y : ℤ) → cast_unsigned w (if t then x else y) ≡ (if t then cast_unsigned w x else cast_unsigned w y)
select_bits w true x y = refl
select_bits w false x y = refl

-- the nearest number of a range, and with it the conversion to `clamp<n>`: two comparisons that select
pub nearest_is : (w : Width) (low high a : ℤ) → FitsSigned w low → FitsSigned w high → FitsSigned w a
    → cast_unsigned w (nearest low high a)
    ≡ (if int_lt (cast_signed w (cast_unsigned w a)) (cast_signed w (cast_unsigned w low)) then cast_unsigned w low
    else (if int_lt (cast_signed w (cast_unsigned w high)) (cast_signed w (cast_unsigned w a)) then cast_unsigned w high else cast_unsigned w a))
unfolding nearest
nearest_is w low high a f g h =
    select_bits w (int_lt a low) low _ ∙ ap (λ y. if int_lt a low then cast_unsigned w low else y) (select_bits w (int_lt high a) high a)
    ∙ (λ i. if sym (lt_s_is w a low h f) i then cast_unsigned w low else (if sym (lt_s_is w high a g h) i then cast_unsigned w high else cast_unsigned w a))
