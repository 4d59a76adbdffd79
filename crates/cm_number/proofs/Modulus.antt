-- Numbers that differ by a multiple, and the floor modulus.
use Rattle.std.proofs.Common.{◌≡◌, ℕ, ◌+◌, ◌-◌, ◌*◌, ◌/◌, ◌%◌, ◌<◌, ℤ, pos, negsuc, ◌+ℤ◌, ◌-ℤ◌, ◌*ℤ◌, neg_ℤ, refl, sym, ap, subst, ◌∙◌, ◌↔◌, arith}
use Rattle.std.proofs.lemmas.Int.{ints}
use Rattle.std.proofs.lemmas.Nat.{same_from_place, div-add-mod', mod_below}
use borrow.Author.Differences.{up, down, same_in, same_out, sum_is_lem, product_is}
use Rattle.cm_number.specs.Conversion.{SameModulo, floor_modulus, to_wrap, IsFloorModulus}

-- a and b differ by a multiple of n, said with natural multiples alone
pub record Congruent (n : ℕ) (a b : ℤ) : Type 0 where
  pub first : ℕ
  pub second : ℕ
  pub meet : a +ℤ pos (first * n) ≡ b +ℤ pos (second * n)

pub from_same_modulo : (n : ℕ) (a b : ℤ) → SameModulo n a b → Congruent n a b
from_same_modulo n a b s = record {
  first = down s.multiple;
  second = up s.multiple;
  meet = let e = s.is in omega (arith, ints, e, product_is s.multiple (pos n));
}

pub to_same_modulo : (n : ℕ) (a b : ℤ) → Congruent n a b → SameModulo n a b
to_same_modulo n a b c = record {
  multiple = pos c.second -ℤ pos c.first;
  is = omega (arith, ints, c.meet, product_is (pos c.second -ℤ pos c.first) (pos n), ap (λ x. x * n) (difference c.second c.first));
}
  where
    difference : (x y : ℕ) → up (pos x -ℤ pos y) + y ≡ down (pos x -ℤ pos y) + x
    difference x y = omega (arith, ints)

pub Congruent-refl : (n : ℕ) (a : ℤ) → Congruent n a a
Congruent-refl n a = record { first = 0; second = 0; meet = refl }

pub Congruent-sym : (n : ℕ) (a b : ℤ) → Congruent n a b → Congruent n b a
Congruent-sym n a b c = record { first = c.second; second = c.first; meet = sym c.meet }

pub Congruent-trans : (n : ℕ) (a b c : ℤ) → Congruent n a b → Congruent n b c → Congruent n a c
Congruent-trans n a b c p q = record {
  first = p.first + q.first;
  second = p.second + q.second;
  meet = omega (arith, ints, p.meet, q.meet);
}

pub Congruent-add : (n : ℕ) (a a' b b' : ℤ) → Congruent n a a' → Congruent n b b' → Congruent n (a +ℤ b) (a' +ℤ b')
Congruent-add n a a' b b' p q = record {
  first = p.first + q.first;
  second = p.second + q.second;
  meet = omega (arith, ints, p.meet, q.meet);
}

pub Congruent-neg : (n : ℕ) (a a' : ℤ) → Congruent n a a' → Congruent n (neg_ℤ a) (neg_ℤ a')
Congruent-neg n a a' p = record { first = p.second; second = p.first; meet = omega (arith, ints, p.meet) }

pub Congruent-sub : (n : ℕ) (a a' b b' : ℤ) → Congruent n a a' → Congruent n b b' → Congruent n (a -ℤ b) (a' -ℤ b')
Congruent-sub n a a' b b' p q = Congruent-add n a a' (neg_ℤ b) (neg_ℤ b') p (Congruent-neg n b b' q)

pub Congruent-mul_left : (n : ℕ) (a a' c : ℤ) → Congruent n a a' → Congruent n (a *ℤ c) (a' *ℤ c)
Congruent-mul_left n a a' c p =
    let sum : up a + p.first * n + down a' ≡ up a' + p.second * n + down a = omega (arith, same_out, sum_is_lem, p.meet) in
    let above = ap (λ x. x * up c) sum in
    let below = ap (λ x. x * down c) sum in
    record {
      first = p.first * up c + p.second * down c;
      second = p.second * up c + p.first * down c;
      meet = omega (arith, same_in, sum_is_lem, product_is);
    }

-- a multiple of n more or less makes no difference
pub Congruent-add_multiple : (n k : ℕ) (a : ℤ) → Congruent n (a +ℤ pos (k * n)) a
Congruent-add_multiple n k a = record { first = 0; second = k; meet = omega (arith, ints) }

-- ---- the floor modulus

pub floor_modulus-lt : (z : ℤ) (n : ℕ) → 0 < n → floor_modulus z n < n
unfolding floor_modulus
floor_modulus-lt (pos a) n p = mod_below a n p
floor_modulus-lt (negsuc a) n p = omega arith

pub floor_modulus-nat : (a n : ℕ) → floor_modulus (pos a) n ≡ a % n
unfolding floor_modulus
floor_modulus-nat a n = refl

pub floor_modulus-Congruent : (z : ℤ) (n : ℕ) → 0 < n → Congruent n z (pos (floor_modulus z n))
unfolding floor_modulus
floor_modulus-Congruent (pos a) n p = record { first = 0; second = a / n; meet = omega (arith, ints, div-add-mod' a n) }
floor_modulus-Congruent (negsuc a) n p = record { first = a / n + 1; second = 0; meet = omega (arith, ints, div-add-mod' a n, mod_below a n p) }

-- two numbers of 0 to n - 1 that differ by a multiple of n are one
pub same_from_Congruent : (n r s : ℕ) → r < n → s < n → Congruent n (pos r) (pos s) → r ≡ s
same_from_Congruent n r s p q c = (same_from_place c.first r c.second s n p q (omega (arith, ints, c.meet))).1

pub floor_modulus_same : (n : ℕ) (a b : ℤ) → 0 < n → Congruent n a b → floor_modulus a n ≡ floor_modulus b n
floor_modulus_same n a b p c = same_from_Congruent n _ _ (floor_modulus-lt a n p) (floor_modulus-lt b n p)
    (Congruent-trans n _ _ _ (Congruent-sym n _ _ (floor_modulus-Congruent a n p)) (Congruent-trans n _ _ _ c (floor_modulus-Congruent b n p)))

pub floor_modulus_from : (n : ℕ) (z : ℤ) (r : ℕ) → r < n → Congruent n z (pos r) → r ≡ floor_modulus z n
floor_modulus_from n z r p c = let some : 0 < n = omega arith in same_from_Congruent n _ _ p (floor_modulus-lt z n some)
    (Congruent-trans n _ _ _ (Congruent-sym n _ _ c) (floor_modulus-Congruent z n some))

-- the floor modulus is the remainder of any natural number that differs by a multiple
pub floor_modulus_by_nat : (n : ℕ) (z : ℤ) (m : ℕ) → 0 < n → Congruent n z (pos m) → floor_modulus z n ≡ m % n
floor_modulus_by_nat n z m p c = floor_modulus_same n z (pos m) p c ∙ floor_modulus-nat m n

pub floor_modulus-add : (n : ℕ) (a b : ℤ) → 0 < n → floor_modulus (a +ℤ b) n ≡ (floor_modulus a n + floor_modulus b n) % n
floor_modulus-add n a b p = floor_modulus_by_nat n (a +ℤ b) _ p
    (Congruent-add n a _ b _ (floor_modulus-Congruent a n p) (floor_modulus-Congruent b n p))

pub floor_modulus-sub : (n : ℕ) (a b : ℤ) → 0 < n → floor_modulus (a -ℤ b) n ≡ (floor_modulus a n + (n - floor_modulus b n)) % n
floor_modulus-sub n a b p =
    let f = floor_modulus-Congruent a n p in
    let g = floor_modulus-Congruent b n p in
    let c = Congruent-sub n a _ b _ f g in
    let small = floor_modulus-lt b n p in
    floor_modulus_by_nat n (a -ℤ b) _ p (record { first = c.first + 1; second = c.second; meet = omega (arith, ints, c.meet) })

pub floor_modulus-neg : (n : ℕ) (a : ℤ) → 0 < n → floor_modulus (neg_ℤ a) n ≡ (n - floor_modulus a n) % n
floor_modulus-neg n a p =
    let c = Congruent-neg n a _ (floor_modulus-Congruent a n p) in
    let small = floor_modulus-lt a n p in
    floor_modulus_by_nat n (neg_ℤ a) _ p (record { first = c.first + 1; second = c.second; meet = omega (arith, ints, c.meet) })

pub Congruent-mul : (n : ℕ) (a a' b b' : ℤ) → Congruent n a a' → Congruent n b b' → Congruent n (a *ℤ b) (a' *ℤ b')
Congruent-mul n a a' b b' p q = Congruent-trans n (a *ℤ b) (a' *ℤ b) (a' *ℤ b') (Congruent-mul_left n a a' b p) (turned (Congruent-mul_left n b b' a' q))
  where
    turned : Congruent n (b *ℤ a') (b' *ℤ a') → Congruent n (a' *ℤ b) (a' *ℤ b')
    turned c = record { first = c.first; second = c.second; meet = omega (arith, ints, c.meet, product_is) }

pub floor_modulus-mul : (n : ℕ) (a b : ℤ) → 0 < n → floor_modulus (a *ℤ b) n ≡ (floor_modulus a n * floor_modulus b n) % n
floor_modulus-mul n a b p = floor_modulus_by_nat n (a *ℤ b) _ p
    (Congruent-mul n a _ b _ (floor_modulus-Congruent a n p) (floor_modulus-Congruent b n p))

-- the floor modulus by n is settled by that by a multiple of n
pub Congruent-factor : (n k : ℕ) (a b : ℤ) → Congruent (k * n) a b → Congruent n a b
Congruent-factor n k a b c = record { first = c.first * k; second = c.second * k; meet = omega (arith, ints, c.meet) }

-- the floor modulus is the only number of 0 to n - 1 that differs from z by a multiple of n
pub floor_modulus_only : (n : ℕ) (z : ℤ) (r : ℕ) → 0 < n → (r ≡ floor_modulus z n) ↔ IsFloorModulus n z (pos r)
floor_modulus_only n z r p = (
  (λ e. subst (λ x. IsFloorModulus n z (pos x)) (sym e) (is_floor_modulus n z p)),
  (λ h. let b = h.below in floor_modulus_from n z r (omega (arith, ints)) (from_same_modulo n _ _ h.same)),
)
  where
    is_floor_modulus : (m : ℕ) (y : ℤ) → 0 < m → IsFloorModulus m y (pos (floor_modulus y m))
    is_floor_modulus m y q = record {
      not_below = omega (arith, ints);
      below = omega (arith, ints, floor_modulus-lt y m q);
      same = to_same_modulo m _ _ (floor_modulus-Congruent y m q);
    }

-- the same of the conversion to `wrap<n>`
pub to_wrap_only : (n : ℕ) (z r : ℤ) → 0 < n → (r ≡ to_wrap n z) ↔ IsFloorModulus n z r
unfolding to_wrap
to_wrap_only n z (pos r) p = let only = floor_modulus_only n z r p in ((λ e. only.0 (cc)), (λ h. ap pos (only.1 h)))
to_wrap_only n z (negsuc r) p = ((λ e. absurd (cc)), (λ h. absurd h.not_below.le))
