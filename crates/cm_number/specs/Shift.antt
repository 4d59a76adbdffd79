-- Shifts at a signed type. The amount is any whole number.
use Rattle.std.specs.Prelude.{◌≡◌, ℕ, ◌/◌, ◌^◌, ◌<◌, ℤ, pos, negsuc, ◌+ℤ◌, ◌*ℤ◌}
use Rattle.std.specs.Int.{Width}
use mir.Val.{bits}
use Rattle.cm_number.specs.Conversion.{floor_modulus, to_signed, to_unsigned}
use Rattle.cm_number.specs.declared.ShiftOp.{ShiftOp}
use Rattle.cm_number.specs.declared.ShiftOp.TheVariants.{Left, Right, RightZero}

-- the number of places: the floor modulus of the amount by the width
abbrev pub shift_amount : Width → ℤ → ℕ
shift_amount w by = floor_modulus by (bits w)

-- The floor quotient: the greatest number whose product with n is not above z.
unfoldable pub floor_quotient : ℤ → ℕ → ℤ
floor_quotient (pos a) n = pos (a / n)
floor_quotient (negsuc a) n = negsuc (a / n)

-- `<<`: the product with a power of 2, wrapped.
unfoldable pub left_shift : Width → ℤ → ℤ → ℤ
left_shift w v by = to_signed w (v *ℤ pos (2 ^ shift_amount w by))

-- `>>`, which keeps the sign: division by a power of 2, rounding down.
unfoldable pub right_shift : Width → ℤ → ℤ → ℤ
right_shift w v by = floor_quotient v (2 ^ shift_amount w by)

-- `>>>`, which fills with zeros: the two's complement divided by a power of 2, rounding down, and read as signed again.
unfoldable pub zero_filled_shift : Width → ℤ → ℤ → ℤ
zero_filled_shift w v by = to_signed w (pos (to_unsigned w v / 2 ^ shift_amount w by))

-- the shift that an operator makes
abbrev pub shift_of : ShiftOp → Width → ℤ → ℤ → ℤ
shift_of Left = left_shift
shift_of Right = right_shift
shift_of RightZero = zero_filled_shift

-- q is z / n rounded down: z is q * n and something from 0 to n - 1
pub record IsFloorQuotient (n : ℕ) (z q : ℤ) : Type 0 where
  pub rest : ℕ
  pub whole : z ≡ q *ℤ pos n +ℤ pos rest
  pub below : rest < n
