-- Numbers as bytes.
use Rattle.std.proofs.Common.{ℕ, [], ◌∷◌, refl, arith, lit≤, lit<, negsuc, inr}
use Rattle.wasm_tree.specs.Spelled.{Unsigned, Signed}

-- 44100 is 68 + 128 * (88 + 128 * 2)
pub three_bytes : Unsigned 32 44100 (0xC4 ∷ 0xD8 ∷ 0x02 ∷ [])
three_bytes = (lit≤ tt, lit< tt, lit< tt, 344, refl, (lit≤ tt, lit< tt, lit< tt, 2, refl, (lit< tt, lit< tt, refl)))

-- the same with two more bytes that add nothing
pub five_bytes : Unsigned 32 44100 (0xC4 ∷ 0xD8 ∷ 0x82 ∷ 0x80 ∷ 0x00 ∷ [])
five_bytes = (
  lit≤ tt,
  lit< tt,
  lit< tt,
  344,
  refl,
  (lit≤ tt, lit< tt, lit< tt, 2, refl, (lit≤ tt, lit< tt, lit< tt, 0, refl, (lit≤ tt, lit< tt, lit< tt, 0, refl, (lit< tt, lit< tt, refl)))),
)

-- a fifth byte has the last four bits, so none may follow it
pub not_six : (n a b c d e f : ℕ) → Unsigned 32 n (a ∷ b ∷ c ∷ d ∷ e ∷ f ∷ []) → ⊥
not_six n a b c d e f (_, _, _, _, _, (_, _, _, _, _, (_, _, _, _, _, (_, _, _, _, _, (_, _, more, _, _, _))))) = omega (arith, more)

-- a byte from 128 on asks for another
pub not_open : (n : ℕ) → Unsigned 32 n (0x80 ∷ []) → ⊥
not_open n (low, _, _) = omega (arith, low)

-- 127 - 128
pub minus_one : Signed 32 (negsuc 0) (0x7F ∷ [])
minus_one = inr (lit≤ tt, lit< tt, lit≤ tt, refl)

-- 63 + 128 * (127 - 128)
pub minus_65 : Signed 32 (negsuc 64) (0xBF ∷ 0x7F ∷ [])
minus_65 = (lit≤ tt, lit< tt, lit< tt, negsuc 0, refl, inr (lit≤ tt, lit< tt, lit≤ tt, refl))
