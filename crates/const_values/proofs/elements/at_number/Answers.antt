use Rattle.std.specs.Prelude.{◌≡◌, ℤ, ◌<◌}
use Rattle.std.specs.Int.{w64}
use Rattle.std.proofs.Common.{rules, arith, ap, sym, ◌∙◌, to_z, of_z}
use Rattle.std.proofs.lemmas.Int.{ints, to_z-of_z}
use Rattle.cm_number.specs.Conversion.{floor_modulus}
use Rattle.cm_types.specs.Meant.{meant_valued}
use Rattle.const_values.proofs.Indices.{at_other, at_same}
use Rattle.const_values.proofs.elements.at_number.Goals as goal

pub returns-then-from-number : goal.returns-then-from-number
returns-then-from-number c =
    at_other (meant_valued c.args.one.now) c.args.number c.array_count-count.result c.floor_mod-position.result c.array_count-count.ensures
    (c.floor_mod-position.ensures ∙ ap (λ (z : ℤ). floor_modulus z c.array_count-count.result) (to_z-of_z w64 c.args.number c.ranges.number))
    (λ h. c.if-from-number.true (ap (of_z w64) (c.from.ensures ∙ h)))

pub returns : goal.returns
returns c =
    let some : 0 < c.array_count-count.result = omega arith in
    let there : to_z w64 (of_z w64 c.from.result) ≡ c.from.result = first_of (search rules, search (rules, to_z-of_z), grind (arith, ints)) in
    c.part_at.ensures
    ∙ at_same (meant_valued c.args.one.now) c.args.number c.array_count-count.result c.floor_mod-position.result c.array_count-count.ensures some
    (c.floor_mod-position.ensures ∙ ap (λ (z : ℤ). floor_modulus z c.array_count-count.result) (to_z-of_z w64 c.args.number c.ranges.number))
    (sym c.from.ensures ∙ (sym there ∙ ap (to_z w64) c.if-from-number.false ∙ to_z-of_z w64 c.args.number c.ranges.number))
