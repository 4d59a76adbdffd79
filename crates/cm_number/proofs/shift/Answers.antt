use Rattle.std.proofs.Common.{◌≡◌, ℕ, ℤ, ◌*◌, ◌%◌, ◌^◌, ◌<◌, sym, ap, ◌∙◌, to_z, of_z, arith}
use Rattle.std.specs.Prelude.{FitsSigned}
use Rattle.std.specs.Int.{w64, w128, cast_signed, cast_unsigned}
use Rattle.std.proofs.lemmas.Int.{to_z-of_z}
use Rattle.cm_number.specs.Conversion.{to_signed, to_unsigned, floor_modulus, IsWidth, width_of}
use Rattle.cm_number.specs.Shift.{shift_amount, shift_of}
use Rattle.cm_number.proofs.Calls.{places_is, places-lt, width_at_most_64, left_shift_result, right_shift_result, zero_filled_result}
use Rattle.cm_number.proofs.shift.Goals as goal

-- the number of places, as `floor_mod` gives it
places : (b k : ℕ) (by : ℤ) → FitsSigned w64 by → IsWidth b → k ≡ floor_modulus (to_z w64 (of_z w64 by)) b → k ≡ shift_amount (width_of b) by
places b k by f h e = e ∙ ap (λ y. floor_modulus y b) (to_z-of_z w64 by f) ∙ places_is b by h

small : (b k : ℕ) (by : ℤ) → IsWidth b → k ≡ floor_modulus by b → k < 64
small b k by h e = omega (arith, e, places-lt b by h)

pub overflow_shl-from : goal.overflow_shl-from
overflow_shl-from c = omega (arith, small c.args.bits c.floor_mod-places.result _ c.requires.width c.floor_mod-places.ensures)

pub overflow_shr-result : goal.overflow_shr-result
overflow_shr-result c = small c.args.bits c.floor_mod-places.result _ c.requires.width c.floor_mod-places.ensures

pub overflow_shr-unsigned : goal.overflow_shr-unsigned
overflow_shr-unsigned c = small c.args.bits c.floor_mod-places.result _ c.requires.width c.floor_mod-places.ensures

pub returns-in-Left : goal.returns-in-Left
returns-in-Left c =
    let w = width_of c.args.bits in
    let amount = places c.args.bits c.floor_mod-places.result c.args.by c.ranges.by c.requires.width c.floor_mod-places.ensures in
    to_z-of_z w64 c.wrap.result (record { sfits = c.wrap.type_inv }) ∙ c.wrap.ensures
    ∙ ap (λ y. to_signed w (cast_signed w128 ((cast_unsigned w128 y * 2 ^ c.floor_mod-places.result) % 2 ^ 128))) (c.from.ensures ∙ to_z-of_z w64 c.args.v c.ranges.v)
    ∙ left_shift_result w c.args.v c.args.by c.floor_mod-places.result (width_at_most_64 c.args.bits c.requires.width) c.ranges.v amount
    ∙ ap (λ o. shift_of o w c.args.v c.args.by) (sym c.in-Left.is)

pub returns-in-Right : goal.returns-in-Right
returns-in-Right c =
    let w = width_of c.args.bits in
    let amount = places c.args.bits c.floor_mod-places.result c.args.by c.ranges.by c.requires.width c.floor_mod-places.ensures in
    right_shift_result w c.args.v c.args.by c.floor_mod-places.result c.ranges.v amount
    ∙ ap (λ o. shift_of o w c.args.v c.args.by) (sym c.in-Right.is)

pub returns-in-RightZero : goal.returns-in-RightZero
returns-in-RightZero c =
    let w = width_of c.args.bits in
    let amount = places c.args.bits c.floor_mod-places.result c.args.by c.ranges.by c.requires.width c.floor_mod-places.ensures in
    let bits = c.unsigned.ensures ∙ ap (to_unsigned w) (to_z-of_z w64 c.args.v c.ranges.v) in
    to_z-of_z w64 c.wrap-in-RightZero.result (record { sfits = c.wrap-in-RightZero.type_inv }) ∙ c.wrap-in-RightZero.ensures
    ∙ ap (to_signed w) (to_z-of_z w128 c.from-in-RightZero.result (record { sfits = c.from-in-RightZero.type_inv }) ∙ c.from-in-RightZero.ensures)
    ∙ zero_filled_result w c.args.v c.args.by c.floor_mod-places.result c.unsigned.result bits amount
    ∙ ap (λ o. shift_of o w c.args.v c.args.by) (sym c.in-RightZero.is)
