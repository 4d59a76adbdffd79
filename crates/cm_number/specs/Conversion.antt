-- The conversions between the number types, on whole numbers and without bits.
use Rattle.std.specs.Prelude.{◌≡◌, ℕ, zero, suc, ◌-◌, ◌%◌, ◌^◌, ◌≤◌, ◌⊎◌, Bool, true, false, ◌==◌, if◌then◌else◌, ℤ, pos, negsuc, ◌+ℤ◌, ◌-ℤ◌, ◌*ℤ◌, ◌≤ℤ◌, ◌<ℤ◌, unsigned_abs, int_lt, FitsSigned}
use Rattle.std.specs.Int.{Width, w32, w64}
use mir.Val.{bits}

-- a and b differ by a multiple of n
pub record SameModulo (n : ℕ) (a b : ℤ) : Type 0 where
  pub multiple : ℤ
  pub is : a ≡ b +ℤ multiple *ℤ pos n

-- The floor modulus of z by n: the number of 0 to n - 1 that differs from z by a multiple of n. From 0 on it repeats 0 to n - 1; from -1 down it repeats n - 1 to 0.
unfoldable pub floor_modulus : ℤ → ℕ → ℕ
floor_modulus (pos a) n = a % n
floor_modulus (negsuc a) n = n - 1 - a % n

-- how many numbers of the signed type are below 0: half of all
abbrev pub half_range : Width → ℕ
half_range w = 2 ^ (bits w - 1)

-- Conversion to `int32` and `int64`: the number of the signed type that differs from z by a multiple of 2 ^ bits. The type begins at -half_range, so the floor modulus is taken of the distance from there.
unfoldable pub to_signed : Width → ℤ → ℤ
to_signed w z = pos (floor_modulus (z +ℤ pos (half_range w)) (2 ^ bits w)) -ℤ pos (half_range w)

-- Two's complement of z at the width: the number of 0 to 2 ^ bits - 1 that differs from z by a multiple of 2 ^ bits.
unfoldable pub to_unsigned : Width → ℤ → ℕ
to_unsigned w z = floor_modulus z (2 ^ bits w)

-- Conversion to `wrap<n>`: the number of 0 to n - 1 that differs from z by a multiple of n.
unfoldable pub to_wrap : ℕ → ℤ → ℤ
to_wrap n z = pos (floor_modulus z n)

-- The number of low to high that is nearest to z: an end of the range where z is beyond it.
unfoldable pub nearest : ℤ → ℤ → ℤ → ℤ
nearest low high z = (if int_lt z low then low else (if int_lt high z then high else z))

-- Conversion to `clamp<n>`: the number of 0 to n - 1 that is nearest to z.
unfoldable pub to_clamp : ℕ → ℤ → ℤ
to_clamp n z = nearest (pos 0) (pos (n - 1)) z

-- Conversion to `bool`: whether z is other than 0.
unfoldable pub to_bool : ℤ → Bool
to_bool (pos zero) = false
to_bool (pos (suc n)) = true
to_bool (negsuc n) = true

-- the width of 32 or 64 bits
abbrev pub width_of : ℕ → Width
width_of b = (if b == 32 then w32 else w64)

-- the number of bits of `int32` or `int64`
abbrev pub IsWidth : ℕ → Type 0
IsWidth b = (b ≡ 32) ⊎ (b ≡ 64)

-- how far a and b are apart
abbrev pub distance : ℤ → ℤ → ℕ
distance a b = unsigned_abs (a -ℤ b)

-- r is a number of the signed type that differs from z by a multiple of 2 ^ bits
pub record IsWrapped (w : Width) (z r : ℤ) : Type 0 where
  pub fits : FitsSigned w r
  pub same : SameModulo (2 ^ bits w) z r

-- r is a number of 0 to n - 1 that differs from z by a multiple of n
pub record IsFloorModulus (n : ℕ) (z r : ℤ) : Type 0 where
  pub not_below : pos 0 ≤ℤ r
  pub below : r <ℤ pos n
  pub same : SameModulo n z r

-- r is a number of low to high, and no number of low to high is nearer to z
pub record IsNearest (low high z r : ℤ) : Type 0 where
  pub above : low ≤ℤ r
  pub below : r ≤ℤ high
  pub closest : (x : ℤ) → low ≤ℤ x → x ≤ℤ high → distance z r ≤ distance z x
