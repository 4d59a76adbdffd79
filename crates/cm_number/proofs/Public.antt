-- The only proofs of this crate that other crates may cite. Each is the law that a clause of `src/laws.rt` states, and the proofs of those clauses cite it from here.

-- `conversions`: each conversion gives the only number with its property.
pub use Rattle.cm_number.proofs.Conversions.{to_signed_only, to_unsigned_only}
pub use Rattle.cm_number.proofs.Modulus.{floor_modulus_only, to_wrap_only}
pub use Rattle.cm_number.proofs.Ranges.{nearest_only, to_clamp_only, to_bool_only}
-- `wrapping`: to wrap on the way changes nothing.
pub use Rattle.cm_number.proofs.Conversions.{to_signed_fits, to_signed-to_signed, to_signed-narrow}
pub use Rattle.cm_number.proofs.Conversions.{to_signed-add_left, to_signed-add_right, to_signed-sub_left, to_signed-sub_right, to_signed-mul_left, to_signed-mul_right, to_signed-neg}
pub use Rattle.cm_number.proofs.Conversions.{floor_modulus-to_signed}
-- `bits_of_numbers`: the bits of a number, and the number that bits are.
pub use Rattle.cm_number.proofs.Conversions.{cast_unsigned-lt, to_unsigned_is, cast_unsigned-to_signed, cast_signed_is}
-- `division`: the quotient and the remainder are the only two numbers that divide with rounding toward 0.
pub use Rattle.cm_number.proofs.Divisions.{truncated_division_only, quotient_is, quotient_least, remainder_least}
-- `results`: the operators' results are numbers of the type.
pub use Rattle.cm_number.proofs.Conversions.{to_signed-Fits}
pub use Rattle.cm_number.proofs.Results.{widened-Fits, quotient-Fits, left_shift-Fits, right_shift-Fits, zero_filled_shift-Fits, bitwise_and-Fits, bitwise_or-Fits, bitwise_xor-Fits, bitwise_not-Fits}
pub use Rattle.cm_number.proofs.Divisions.{remainder-Fits}
-- `shifts`: a shift is a wrapped product or a floor quotient, by the floor modulus of the amount.
pub use Rattle.cm_number.proofs.Shifts.{floor_quotient_only, left_shift_only, right_shift_only, zero_filled_shift_only, shift_amount-lt, shift_amount-cast_unsigned, shift_amount-to_signed}
-- `arithmetic_instructions`: WebAssembly's sums, differences, products and divisions on bits.
pub use Rattle.cm_number.proofs.Opcodes.{add_is, sub_is, neg_is, mul_is, div_s_is, div_minus_one_is, rem_s_is, rem_minus_one_is, div_u_is, rem_u_is}
-- `bit_instructions`: WebAssembly's instructions on bits, and its shifts.
pub use Rattle.cm_number.proofs.Opcodes.{and_is, or_is, xor_is, not_is, shl_is, shr_s_is, shr_u_is}
-- `comparison_instructions`: WebAssembly's comparisons on bits.
pub use Rattle.cm_number.proofs.Opcodes.{eq_is, lt_s_is, le_s_is, gt_s_is, ge_s_is, eqz_is}
-- `conversion_instructions`: the conversions, computed by WebAssembly's instructions.
pub use Rattle.cm_number.proofs.Opcodes.{wrap_i64_is, extend_i32_s_is, extend_i32_u_is, to_wrap_is, nearest_is}
