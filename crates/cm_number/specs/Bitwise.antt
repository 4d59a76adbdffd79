-- The operators on bits, at a signed type: both sides are taken in two's complement, and the result is read as signed again.
use Rattle.std.specs.Prelude.{ℤ, pos, ◌-ℤ◌, neg_ℤ, bit_and, bit_or, bit_xor}
use Rattle.std.specs.Int.{Width}
use Rattle.cm_number.specs.Conversion.{to_signed, to_unsigned}

-- `&`: the number whose bits are those that a and b both have.
unfoldable pub bitwise_and : Width → ℤ → ℤ → ℤ
bitwise_and w a b = to_signed w (pos (bit_and (to_unsigned w a) (to_unsigned w b)))

-- `|`: the number whose bits are those that a or b has.
unfoldable pub bitwise_or : Width → ℤ → ℤ → ℤ
bitwise_or w a b = to_signed w (pos (bit_or (to_unsigned w a) (to_unsigned w b)))

-- `^`: the number whose bits are those that just one of a and b has.
unfoldable pub bitwise_xor : Width → ℤ → ℤ → ℤ
bitwise_xor w a b = to_signed w (pos (bit_xor (to_unsigned w a) (to_unsigned w b)))

-- `~`: the number whose bits are those that a has not, which is -a - 1.
unfoldable pub bitwise_not : ℤ → ℤ
bitwise_not a = neg_ℤ a -ℤ pos 1
