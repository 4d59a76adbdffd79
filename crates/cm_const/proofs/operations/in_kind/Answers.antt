use Rattle.std.specs.Prelude.{ℤ}
use Rattle.std.specs.Int.{w64}
use Rattle.std.proofs.Common.{rules, ◌≡◌, ap, ◌∙◌, to_z, of_z}
use Rattle.std.proofs.lemmas.Int.{to_z-of_z}
use Rattle.cm_types.specs.Meant.{meant_value}
use Rattle.cm_number.specs.Conversion.{width_of}
use Rattle.cm_meaning.specs.Conversions.{computed}
use Rattle.cm_meaning.specs.Types.{scalar_value}
use Rattle.cm_const.proofs.Sound.{in_kind_is}
use Rattle.cm_const.proofs.operations.in_kind.Goals as goal

pub returns-clause-value : goal.returns-clause-value
returns-clause-value c =
    let told = c.in_ok-number.ensures
    ∙ ap (λ (x : ℤ). computed c.args.op (width_of c.bits.result) x (to_z w64 (of_z w64 c.args.right))) (to_z-of_z w64 c.args.left c.ranges.left)
    ∙ ap (computed c.args.op (width_of c.bits.result) c.args.left) (to_z-of_z w64 c.args.right c.ranges.right)
    in
    let number : to_z w64 (of_z w64 c.in_ok-number.number) ≡ c.in_ok-number.number = search rules in
    in_kind_is c.args.op c.args.kind (width_of c.bits.result) c.args.left c.args.right c.in_ok-number.number _ (meant_value c.converted.result.value)
    c.bits.ensures.value told c.converted.ensures.ty (c.converted.ensures.value ∙ ap (scalar_value c.args.kind) number)
