-- Worked rows of the definitions.
use Rattle.std.proofs.Common.{◌≡◌, pos, negsuc, refl}
use Rattle.std.specs.Int.{w32, w64}
use Rattle.cm_number.specs.Conversion.{floor_modulus, to_signed, to_unsigned, to_wrap, nearest, to_clamp}
use Rattle.cm_number.specs.Division.{truncated_quotient, quotient, remainder}
use Rattle.cm_number.specs.Shift.{floor_quotient, left_shift, right_shift, zero_filled_shift}
use Rattle.cm_number.specs.Bitwise.{bitwise_and, bitwise_xor}

-- -1 by floor modulus of 3 is 2
minus_one_wraps_to_the_end : to_wrap 3 (negsuc 0) ≡ pos 2
unfolding to_wrap floor_modulus
minus_one_wraps_to_the_end = refl

minus_three_wraps_to_zero : to_wrap 3 (negsuc 2) ≡ pos 0
unfolding to_wrap floor_modulus
minus_three_wraps_to_zero = refl

-- 2 ^ 31 is the least `int32`, and 2 ^ 32 - 1 is -1
half_becomes_least : to_signed w32 (pos 2147483648) ≡ negsuc 2147483647
unfolding to_signed floor_modulus
half_becomes_least = refl

all_ones_become_minus_one : to_signed w32 (pos 4294967295) ≡ negsuc 0
unfolding to_signed floor_modulus
all_ones_become_minus_one = refl

-- -2 ^ 63 - 1 is the greatest `int64`
below_least_becomes_greatest : to_signed w64 (negsuc 9223372036854775808) ≡ pos 9223372036854775807
unfolding to_signed floor_modulus
below_least_becomes_greatest = refl

clamped_below : to_clamp 10 (negsuc 4) ≡ pos 0
unfolding to_clamp nearest
clamped_below = refl

clamped_above : to_clamp 10 (pos 10) ≡ pos 9
unfolding to_clamp nearest
clamped_above = refl

-- -7 / 2 is -3 and leaves -1
quotient_towards_zero : quotient w32 (negsuc 6) (pos 2) ≡ negsuc 2
unfolding quotient truncated_quotient to_signed floor_modulus
quotient_towards_zero = refl

remainder_of_the_dividend's_sign : remainder (negsuc 6) (pos 2) ≡ negsuc 0
unfolding remainder truncated_quotient
remainder_of_the_dividend's_sign = refl

-- -5 >> 1 is -3, -1 >>> 1 is the greatest `int32`, and 1 << -1 is 1 << 31
right_rounds_down : right_shift w32 (negsuc 4) (pos 1) ≡ negsuc 2
unfolding right_shift floor_quotient floor_modulus
right_rounds_down = refl

right_fills_with_zeros : zero_filled_shift w32 (negsuc 0) (pos 1) ≡ pos 2147483647
unfolding zero_filled_shift to_unsigned to_signed floor_modulus
right_fills_with_zeros = refl

left_by_minus_one : left_shift w32 (pos 1) (negsuc 0) ≡ negsuc 2147483647
unfolding left_shift to_signed floor_modulus
left_by_minus_one = refl

-- -4 & 6 is 4, and -1 ^ 1 is -2
and_of_a_negative : bitwise_and w32 (negsuc 3) (pos 6) ≡ pos 4
unfolding bitwise_and to_unsigned to_signed floor_modulus
and_of_a_negative = refl

xor_of_a_negative : bitwise_xor w32 (negsuc 0) (pos 1) ≡ negsuc 1
unfolding bitwise_xor to_unsigned to_signed floor_modulus
xor_of_a_negative = refl
