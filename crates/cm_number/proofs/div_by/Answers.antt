use Rattle.std.proofs.Common.{◌∙◌, to_z, of_z}
use Rattle.std.specs.Prelude.{int_div}
use Rattle.std.specs.Int.{w64, w128}
use Rattle.std.proofs.lemmas.Int.{to_z-of_z}
use Rattle.cm_number.specs.Conversion.{to_signed, width_of}
use Rattle.cm_number.proofs.Calls.{quotient_result}
use Rattle.cm_number.proofs.div_by.Goals as goal

pub returns : goal.returns
returns c =
    let v = c.from.ensures ∙ to_z-of_z w64 c.args.v c.ranges.v in
    let d = c.from-2.ensures ∙ to_z-of_z w64 c.args.d c.ranges.d in
    to_z-of_z w64 c.wrap.result (record { sfits = c.wrap.type_inv }) ∙ c.wrap.ensures
    ∙ (λ i. to_signed (width_of c.args.bits) (to_z w128 (of_z w128 (int_div (to_z w128 (of_z w128 (v i))) (to_z w128 (of_z w128 (d i)))))))
    ∙ quotient_result (width_of c.args.bits) c.args.v c.args.d c.ranges.v c.ranges.d
