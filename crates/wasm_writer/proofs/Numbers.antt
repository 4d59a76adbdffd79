-- The shortest numbers are spelled as the format says, byte by byte, and no spelling is shorter.
use Rattle.std.proofs.Common.{◌≡◌, ℕ, zero, suc, ◌+◌, ◌-◌, ◌*◌, ◌/◌, ◌%◌, ◌^◌, ◌<◌, ◌≤◌, true, false, List, [], ◌∷◌, ◌++◌, length, refl, sym, ap, subst, ◌∙◌, arith, inl, inr, append_assoc}
use Rattle.std.specs.Prelude.{ℤ, pos, negsuc, ◌+ℤ◌, ◌*ℤ◌, FitsSigned}
use Rattle.std.specs.Prelude.{int_lt}
use Rattle.std.specs.Int.{w32, w64, int_rem_euclid, int_div_euclid, cast_signed, cast_unsigned}
use Rattle.std.specs.Int.RustNames.{unsigned_abs}
use Rattle.std.proofs.lemmas.Bool.{cases_lt, le-ltb, lt-ltb, ltb-true}
use Rattle.std.proofs.lemmas.Int.{ints, to_z-of_z}
use Rattle.std.proofs.lemmas.Nat.{pow-add}
use Rattle.std.proofs.Math.Nat.{pow-suc}
use Rattle.std.proofs.Math.Pow.{pow_mono}
use Rattle.wasm_tree.specs.Spelled.{Index, Unsigned, Signed, SignedLast}
use Rattle.wasm_writer.specs.Spelling.{unsigned_within, unsigned_bytes, is_seven_bits, low_bits, high_bits, signed_within, signed_bytes}

-- ---- powers of two

seven_less : (bits : ℕ) → 7 < bits → 2 ^ bits ≡ 2 ^ (bits - 7) * 128
seven_less bits h = let e : bits ≡ (bits - 7) + 7 = omega arith in ap (λ (k : ℕ). 2 ^ k) e ∙ pow-add 2 (bits - 7) 7

-- a number past seven bits has more than seven
past_seven : (bits n : ℕ) → n < 2 ^ bits → 128 ≤ n → 7 < bits
past_seven bits n lt le =
    elim (cases_lt 7 bits) [
      | inl more ↦ more
      | inr few ↦ let small : 2 ^ bits ≤ 2 ^ 7 = pow_mono few in absurd (omega arith)
    ]

within_seven : (bits n : ℕ) → bits ≤ 7 → n < 2 ^ bits → n < 128
within_seven bits n few lt = let small : 2 ^ bits ≤ 2 ^ 7 = pow_mono few in omega arith

-- ---- unsigned

pub unsigned_one : (k n : ℕ) → n < 128 → unsigned_within k n ≡ n ∷ []
unfolding unsigned_within
unsigned_one zero n h = refl
unsigned_one (suc k) n h = rw (lt-ltb n 128 h) refl

pub unsigned_more : (k n : ℕ) → 128 ≤ n → unsigned_within (suc k) n ≡ (n % 128 + 128) ∷ unsigned_within k (n / 128)
unfolding unsigned_within
unsigned_more k n h = rw (le-ltb n 128 h) refl

-- one more byte to spare changes nothing
pub unsigned_spare : (k n : ℕ) → n < 128 * 128 ^ k → unsigned_within k n ≡ unsigned_within (suc k) n
unsigned_spare zero n h = let lt : n < 128 = omega arith in unsigned_one 0 n lt ∙ sym (unsigned_one 1 n lt)
unsigned_spare (suc k) n h =
    elim (cases_lt n 128) [
      | inl lt ↦ unsigned_one (suc k) n lt ∙ sym (unsigned_one (suc (suc k)) n lt)
      | inr le ↦
          let below : n / 128 < 128 * 128 ^ k = omega (arith, pow-suc 128 k, h) in
          unsigned_more k n le ∙ ap (λ (bytes : List ℕ). (n % 128 + 128) ∷ bytes) (unsigned_spare k (n / 128) below) ∙ sym (unsigned_more (suc k) n le)
    ]

-- a number's bytes are its lowest seven bits and those of the rest
pub unsigned_step : (n : ℕ) → n < 2 ^ 32 → 128 ≤ n → unsigned_bytes n ≡ (n % 128 + 128) ∷ unsigned_bytes (n / 128)
unfolding unsigned_bytes
unsigned_step n lt le =
    let below : n / 128 < 128 * 128 ^ 3 = omega arith in
    unsigned_more 3 n le ∙ ap (λ (bytes : List ℕ). (n % 128 + 128) ∷ bytes) (unsigned_spare 3 (n / 128) below)

-- a loop's turn: what is written and the bytes of the rest stay the same together
pub unsigned_written : (out : List ℕ) (n : ℕ) (total : List ℕ) → n < 2 ^ 32 → 128 ≤ n → out ++ unsigned_bytes n ≡ total → (out ++ (n % 128 + 128) ∷ []) ++ unsigned_bytes (n / 128) ≡ total
unsigned_written out n total lt le e = append_assoc out ((n % 128 + 128) ∷ []) (unsigned_bytes (n / 128)) ∙ ap (λ (bytes : List ℕ). out ++ bytes) (sym (unsigned_step n lt le)) ∙ e

pub unsigned_end : (n : ℕ) → n < 128 → unsigned_bytes n ≡ n ∷ []
unfolding unsigned_bytes
unsigned_end n h = unsigned_one 4 n h

-- a byte of 128 or more before others
unsigned_joined : (bits n b : ℕ) (bytes : List ℕ) (high : ℕ) → 128 ≤ b → b < 256 → 7 < bits → n + 128 ≡ b + 128 * high → Unsigned (bits - 7) high bytes → Unsigned bits n (b ∷ bytes)
unsigned_joined bits n b [] high le lt more whole rest = absurd rest
unsigned_joined bits n b (c ∷ bytes) high le lt more whole rest = (le, lt, more, high, whole, rest)

unsigned_spelled : (k bits n : ℕ) → n < 2 ^ bits → bits ≤ 7 + 7 * k → Unsigned bits n (unsigned_within k n)
unsigned_spelled zero bits n lt few =
    let small : n < 128 = within_seven bits n (omega arith) lt in
    rw (unsigned_one 0 n small) (small, lt, refl)
unsigned_spelled (suc k) bits n lt few =
    elim (cases_lt n 128) [
      | inl small ↦ rw (unsigned_one (suc k) n small) (small, lt, refl)
      | inr le ↦
          let more = past_seven bits n lt le in
          let below : n / 128 < 2 ^ (bits - 7) = omega (arith, seven_less bits more) in
          rw (unsigned_more k n le)
          (unsigned_joined bits n (n % 128 + 128) (unsigned_within k (n / 128)) (n / 128) (omega arith) (omega arith) more (omega arith)
          (unsigned_spelled k (bits - 7) (n / 128) below (omega arith)))
    ]

pub index_spelled : (n : ℕ) → n < 2 ^ 32 → Index n (unsigned_bytes n)
unfolding unsigned_bytes
index_spelled n h = unsigned_spelled 4 32 n h (omega arith)

pub unsigned_begins : (n : ℕ) → 1 ≤ length (unsigned_bytes n)
unfolding unsigned_bytes
unsigned_begins n =
    elim (cases_lt n 128) [
      | inl small ↦ rw (unsigned_one 4 n small) (omega arith)
      | inr le ↦ rw (unsigned_more 3 n le) (omega arith)
    ]

-- no spelling has fewer bytes
unsigned_shortest : (k bits n : ℕ) (bytes : List ℕ) → Unsigned bits n bytes → length (unsigned_within k n) ≤ length bytes
unsigned_shortest k bits n [] h = absurd h
unsigned_shortest k bits n (b ∷ []) h = rw (unsigned_one k n (omega (arith, h.0, h.2))) (omega arith)
unsigned_shortest zero bits n (b ∷ c ∷ bytes) h = unfold unsigned_within in (omega arith)
unsigned_shortest (suc k) bits n (b ∷ c ∷ bytes) h =
    elim (cases_lt n 128) [
      | inl small ↦ rw (unsigned_one (suc k) n small) (omega arith)
      | inr le ↦
          let high : h.3 ≡ n / 128 = omega (arith, h.0, h.1, h.4) in
          let least = unsigned_shortest k (bits - 7) (n / 128) (c ∷ bytes) (subst (λ (m : ℕ). Unsigned (bits - 7) m (c ∷ bytes)) high h.5) in
          rw (unsigned_more k n le) (omega (arith, least))
    ]

pub index_shortest : (n : ℕ) (bytes : List ℕ) → Index n bytes → length (unsigned_bytes n) ≤ length bytes
unfolding unsigned_bytes
index_shortest n bytes h = unsigned_shortest 4 32 n bytes h

-- ---- signed

-- how far a number is from 0, or from -1 below that
abbrev pub magnitude : ℤ → ℕ
magnitude (pos n) = n
magnitude (negsuc n) = n

short_is : (z : ℤ) → magnitude z < 64 → is_seven_bits z ≡ true
short_is (pos n) h = lt-ltb n 64 h
short_is (negsuc n) h = lt-ltb n 64 h

long_is : (z : ℤ) → 64 ≤ magnitude z → is_seven_bits z ≡ false
long_is (pos n) h = le-ltb n 64 h
long_is (negsuc n) h = le-ltb n 64 h

high_magnitude : (z : ℤ) → magnitude (high_bits z) ≡ magnitude z / 128
high_magnitude (pos n) = refl
high_magnitude (negsuc n) = refl

low_below : (z : ℤ) → low_bits z < 128
low_below (pos n) = omega arith
low_below (negsuc n) = omega arith

-- a number is its lowest seven bits and 128 times the rest
parts_of : (z : ℤ) → z +ℤ pos 128 ≡ pos (low_bits z + 128) +ℤ (pos 128 *ℤ high_bits z)
parts_of (pos n) = omega (arith, ints)
parts_of (negsuc n) = omega (arith, ints)

pub signed_one : (k : ℕ) (z : ℤ) → magnitude z < 64 → signed_within k z ≡ low_bits z ∷ []
unfolding signed_within
signed_one zero z h = refl
signed_one (suc k) z h = rw (short_is z h) refl

pub signed_more : (k : ℕ) (z : ℤ) → 64 ≤ magnitude z → signed_within (suc k) z ≡ (low_bits z + 128) ∷ signed_within k (high_bits z)
unfolding signed_within
signed_more k z h = rw (long_is z h) refl

pub signed_spare : (k : ℕ) (z : ℤ) → magnitude z < 64 * 128 ^ k → signed_within k z ≡ signed_within (suc k) z
signed_spare zero z h = let lt : magnitude z < 64 = omega arith in signed_one 0 z lt ∙ sym (signed_one 1 z lt)
signed_spare (suc k) z h =
    elim (cases_lt (magnitude z) 64) [
      | inl lt ↦ signed_one (suc k) z lt ∙ sym (signed_one (suc (suc k)) z lt)
      | inr le ↦
          let below : magnitude (high_bits z) < 64 * 128 ^ k = omega (arith, pow-suc 128 k, h, high_magnitude z) in
          signed_more k z le ∙ ap (λ (bytes : List ℕ). (low_bits z + 128) ∷ bytes) (signed_spare k (high_bits z) below) ∙ sym (signed_more (suc k) z le)
    ]

pub step_within : (z : ℤ) → magnitude z < 2 ^ 63 → 64 ≤ magnitude z → signed_bytes z ≡ (low_bits z + 128) ∷ signed_bytes (high_bits z)
unfolding signed_bytes
step_within z lt le =
    let below : magnitude (high_bits z) < 64 * 128 ^ 8 = omega (arith, high_magnitude z) in
    signed_more 8 z le ∙ ap (λ (bytes : List ℕ). (low_bits z + 128) ∷ bytes) (signed_spare 8 (high_bits z) below)

pub fits_wide : (z : ℤ) → FitsSigned w64 z → magnitude z < 2 ^ 63
fits_wide (pos n) h = h.sfits
fits_wide (negsuc n) h = h.sfits

pub fits_narrow : (z : ℤ) → FitsSigned w32 z → magnitude z < 2 ^ 31
fits_narrow (pos n) h = h.sfits
fits_narrow (negsuc n) h = h.sfits

past_six : (bits n : ℕ) → n < 2 ^ (bits - 1) → 64 ≤ n → 7 < bits
past_six bits n lt le =
    elim (cases_lt 7 bits) [
      | inl more ↦ more
      | inr few ↦ let few : bits - 1 ≤ 6 = omega arith in let small : 2 ^ (bits - 1) ≤ 2 ^ 6 = pow_mono few in absurd (omega arith)
    ]

within_six : (bits n : ℕ) → bits ≤ 7 → n < 2 ^ (bits - 1) → n < 64
within_six bits n few lt = let less : bits - 1 ≤ 6 = omega arith in let small : 2 ^ (bits - 1) ≤ 2 ^ 6 = pow_mono less in omega arith

seven_fewer : (bits : ℕ) → 7 < bits → 2 ^ (bits - 1) ≡ 2 ^ (bits - 7 - 1) * 128
seven_fewer bits h = let e : bits - 1 ≡ (bits - 7 - 1) + 7 = omega arith in ap (λ (k : ℕ). 2 ^ k) e ∙ pow-add 2 (bits - 7 - 1) 7

signed_last : (bits : ℕ) (z : ℤ) → magnitude z < 2 ^ (bits - 1) → magnitude z < 64 → SignedLast bits z (low_bits z)
signed_last bits (pos n) lt small = let e : n % 128 ≡ n = omega arith in rw e (inl (small, lt, refl))
signed_last bits (negsuc n) lt small = let e : n % 128 ≡ n = omega arith in rw e (inr (omega arith, omega arith, omega arith, omega (arith, ints)))

signed_joined : (bits : ℕ) (z : ℤ) (b : ℕ) (bytes : List ℕ) (high : ℤ) → 128 ≤ b → b < 256 → 7 < bits → z +ℤ pos 128 ≡ pos b +ℤ (pos 128 *ℤ high) → Signed (bits - 7) high bytes → Signed bits z (b ∷ bytes)
signed_joined bits z b [] high le lt more whole rest = absurd rest
signed_joined bits z b (c ∷ bytes) high le lt more whole rest = (le, lt, more, high, whole, rest)

signed_spelled : (k bits : ℕ) (z : ℤ) → magnitude z < 2 ^ (bits - 1) → bits ≤ 7 + 7 * k → Signed bits z (signed_within k z)
signed_spelled zero bits z lt few =
    let small = within_six bits (magnitude z) (omega arith) lt in
    rw (signed_one 0 z small) (signed_last bits z lt small)
signed_spelled (suc k) bits z lt few =
    elim (cases_lt (magnitude z) 64) [
      | inl small ↦ rw (signed_one (suc k) z small) (signed_last bits z lt small)
      | inr le ↦
          let more = past_six bits (magnitude z) lt le in
          let below : magnitude (high_bits z) < 2 ^ (bits - 7 - 1) = omega (arith, seven_fewer bits more, high_magnitude z) in
          rw (signed_more k z le)
          (signed_joined bits z (low_bits z + 128) (signed_within k (high_bits z)) (high_bits z) (omega arith) (omega (arith, low_below z)) more (parts_of z)
          (signed_spelled k (bits - 7) (high_bits z) below (omega arith)))
    ]

pub signed_spelled_32 : (z : ℤ) → FitsSigned w32 z → Signed 32 z (signed_bytes z)
unfolding signed_bytes
signed_spelled_32 z h = let lt = fits_narrow z h in signed_spelled 9 32 z lt (omega arith)

pub signed_spelled_64 : (z : ℤ) → FitsSigned w64 z → Signed 64 z (signed_bytes z)
unfolding signed_bytes
signed_spelled_64 z h = let lt = fits_wide z h in signed_spelled 9 64 z lt (omega arith)

pub signed_written : (out : List ℕ) (z : ℤ) (total : List ℕ) → FitsSigned w64 z → 64 ≤ magnitude z → out ++ signed_bytes z ≡ total → (out ++ (low_bits z + 128) ∷ []) ++ signed_bytes (high_bits z) ≡ total
signed_written out z total fits le e = append_assoc out ((low_bits z + 128) ∷ []) (signed_bytes (high_bits z)) ∙ ap (λ (bytes : List ℕ). out ++ bytes) (sym (step_within z (fits_wide z fits) le)) ∙ e

pub signed_end : (z : ℤ) → magnitude z < 64 → signed_bytes z ≡ low_bits z ∷ []
unfolding signed_bytes
signed_end z h = signed_one 9 z h

-- no spelling has fewer bytes
low_unique : (z : ℤ) (b : ℕ) (high : ℤ) → 128 ≤ b → b < 256 → z +ℤ pos 128 ≡ pos b +ℤ (pos 128 *ℤ high) → high ≡ high_bits z
low_unique (pos n) b (pos h) le lt e = omega (arith, ints)
low_unique (pos n) b (negsuc h) le lt e = omega (arith, ints)
low_unique (negsuc n) b (pos h) le lt e = omega (arith, ints)
low_unique (negsuc n) b (negsuc h) le lt e = omega (arith, ints)

last_small : (bits : ℕ) (z : ℤ) (b : ℕ) → SignedLast bits z b → magnitude z < 64
last_small bits (pos n) b (inl h) = omega (arith, ints, h.0, h.2)
last_small bits (pos n) b (inr h) = omega (arith, ints, h.1, h.3)
last_small bits (negsuc n) b (inl h) = omega (arith, ints, h.0, h.2)
last_small bits (negsuc n) b (inr h) = omega (arith, ints, h.0, h.3)

signed_shortest_within : (k bits : ℕ) (z : ℤ) (bytes : List ℕ) → Signed bits z bytes → length (signed_within k z) ≤ length bytes
signed_shortest_within k bits z [] h = absurd h
signed_shortest_within k bits z (b ∷ []) h = rw (signed_one k z (last_small bits z b h)) (omega arith)
signed_shortest_within zero bits z (b ∷ c ∷ bytes) h = unfold signed_within in (omega arith)
signed_shortest_within (suc k) bits z (b ∷ c ∷ bytes) h =
    elim (cases_lt (magnitude z) 64) [
      | inl small ↦ rw (signed_one (suc k) z small) (omega arith)
      | inr le ↦
          let high = low_unique z b h.3 h.0 h.1 h.4 in
          let least = signed_shortest_within k (bits - 7) (high_bits z) (c ∷ bytes) (subst (λ (y : ℤ). Signed (bits - 7) y (c ∷ bytes)) high h.5) in
          rw (signed_more k z le) (omega (arith, least))
    ]

pub signed_shortest : (bits : ℕ) (z : ℤ) (bytes : List ℕ) → Signed bits z bytes → length (signed_bytes z) ≤ length bytes
unfolding signed_bytes
signed_shortest bits z bytes h = signed_shortest_within 9 bits z bytes h

-- ---- the loop's turn at a signed number

low_is : (z : ℤ) → int_rem_euclid z (pos 128) ≡ pos (low_bits z)
low_is (pos n) = refl
low_is (negsuc n) = refl

high_is : (z : ℤ) → int_div_euclid z (pos 128) ≡ high_bits z
high_is (pos n) = refl
high_is (negsuc n) = refl

high_fits : (z : ℤ) → FitsSigned w64 z → FitsSigned w64 (high_bits z)
high_fits (pos n) h = record { sfits = let lt : n < 2 ^ 63 = h.sfits in omega arith }
high_fits (negsuc n) h = record { sfits = let lt : n < 2 ^ 63 = h.sfits in omega arith }

pub far_below : (z : ℤ) → int_lt z (negsuc 63) ≡ true → 64 ≤ magnitude z
far_below (pos n) h = absurd cc
far_below (negsuc n) h = omega (arith, ltb-true 63 n h)

pub far_above : (z : ℤ) → int_lt (pos 63) z ≡ true → 64 ≤ magnitude z
far_above (pos n) h = omega (arith, ltb-true 63 n h)
far_above (negsuc n) h = absurd cc

pub signed_turn : (out new : List ℕ) (z low high : ℤ) (total : List ℕ) → FitsSigned w64 z → 64 ≤ magnitude z → low ≡ int_rem_euclid z (pos 128) → high ≡ int_div_euclid z (pos 128)
    → new ≡ out ++ (unsigned_abs (cast_signed w64 (cast_unsigned w64 low)) + 128) ∷ [] → out ++ signed_bytes z ≡ total → new ++ signed_bytes (cast_signed w64 (cast_unsigned w64 high)) ≡ total
signed_turn out new z low high total fits le low_eq high_eq new_eq e =
    let low_fits : FitsSigned w64 (pos (low_bits z)) = record { sfits = omega (arith, low_below z) } in
    let low_now : cast_signed w64 (cast_unsigned w64 low) ≡ pos (low_bits z) = ap (λ (y : ℤ). cast_signed w64 (cast_unsigned w64 y)) (low_eq ∙ low_is z) ∙ to_z-of_z w64 (pos (low_bits z)) low_fits in
    let high_now : cast_signed w64 (cast_unsigned w64 high) ≡ high_bits z = ap (λ (y : ℤ). cast_signed w64 (cast_unsigned w64 y)) (high_eq ∙ high_is z) ∙ to_z-of_z w64 (high_bits z) (high_fits z fits) in
    let new_now : new ≡ out ++ (low_bits z + 128) ∷ [] = new_eq ∙ ap (λ (y : ℤ). out ++ (unsigned_abs y + 128) ∷ []) low_now in
    rw (high_now, new_now) (signed_written out z total fits le e)

-- ---- rows of the definitions

row_44100 : unsigned_bytes 44100 ≡ 0xC4 ∷ 0xD8 ∷ 0x02 ∷ []
unfolding unsigned_bytes unsigned_within
row_44100 = refl

row_greatest : unsigned_bytes (2 ^ 32 - 1) ≡ 0xFF ∷ 0xFF ∷ 0xFF ∷ 0xFF ∷ 0x0F ∷ []
unfolding unsigned_bytes unsigned_within
row_greatest = refl

row_64 : signed_bytes (pos 64) ≡ 0xC0 ∷ 0x00 ∷ []
unfolding signed_bytes signed_within
row_64 = refl

row_less_one : signed_bytes (negsuc 0) ≡ 0x7F ∷ []
unfolding signed_bytes signed_within
row_less_one = refl

row_less_65 : signed_bytes (negsuc 64) ≡ 0xBF ∷ 0x7F ∷ []
unfolding signed_bytes signed_within
row_less_65 = refl
