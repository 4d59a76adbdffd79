-- The operators' results are of the type.
use Rattle.std.proofs.Common.{◌≡◌, ◌+◌, ◌^◌, ◌≤◌, ℤ, refl, arith}
use Rattle.std.specs.Prelude.{FitsSigned}
use Rattle.std.specs.Int.{Width, w8, w16, w32, w64, w128}
use Rattle.std.proofs.Math.Nat.{pow-le-pow_right}
use Rattle.std.proofs.lemmas.Int.{ints}
use mir.Val.{bits, hbits}
use Rattle.cm_number.specs.Division.{quotient}
use Rattle.cm_number.specs.Shift.{left_shift, right_shift, zero_filled_shift, shift_amount}
use Rattle.cm_number.specs.Bitwise.{bitwise_and, bitwise_or, bitwise_xor, bitwise_not}
use Rattle.cm_number.proofs.Conversions.{to_signed-Fits}
use Rattle.cm_number.proofs.Shifts.{floor_quotient-Fits}

half : (w : Width) → hbits w + 1 ≡ bits w
half w8 = refl
half w16 = refl
half w32 = refl
half w64 = refl
half w128 = refl

-- a number of the narrower type is one of the wider type
pub widened-Fits : (narrow wide : Width) (a : ℤ) → bits narrow ≤ bits wide → FitsSigned narrow a → FitsSigned wide a
widened-Fits narrow wide a h f =
    let le : hbits narrow ≤ hbits wide = omega (arith, half narrow, half wide) in
    record { sfits = omega (arith, f.sfits, pow-le-pow_right {n = 2} (omega arith) le) }

pub quotient-Fits : (w : Width) (v d : ℤ) → FitsSigned w (quotient w v d)
unfolding quotient
quotient-Fits w v d = to_signed-Fits w _

pub left_shift-Fits : (w : Width) (v by : ℤ) → FitsSigned w (left_shift w v by)
unfolding left_shift
left_shift-Fits w v by = to_signed-Fits w _

pub right_shift-Fits : (w : Width) (v by : ℤ) → FitsSigned w v → FitsSigned w (right_shift w v by)
unfolding right_shift
right_shift-Fits w v by f = floor_quotient-Fits w v (2 ^ shift_amount w by) f

pub zero_filled_shift-Fits : (w : Width) (v by : ℤ) → FitsSigned w (zero_filled_shift w v by)
unfolding zero_filled_shift
zero_filled_shift-Fits w v by = to_signed-Fits w _

pub bitwise_and-Fits : (w : Width) (a b : ℤ) → FitsSigned w (bitwise_and w a b)
unfolding bitwise_and
bitwise_and-Fits w a b = to_signed-Fits w _

pub bitwise_or-Fits : (w : Width) (a b : ℤ) → FitsSigned w (bitwise_or w a b)
unfolding bitwise_or
bitwise_or-Fits w a b = to_signed-Fits w _

pub bitwise_xor-Fits : (w : Width) (a b : ℤ) → FitsSigned w (bitwise_xor w a b)
unfolding bitwise_xor
bitwise_xor-Fits w a b = to_signed-Fits w _

pub bitwise_not-Fits : (w : Width) (a : ℤ) → FitsSigned w a → FitsSigned w (bitwise_not a)
unfolding bitwise_not
bitwise_not-Fits w a f = omega (arith, ints, f)
