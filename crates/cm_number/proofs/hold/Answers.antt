use Rattle.std.proofs.Common.{◌∙◌}
use Rattle.std.specs.Int.{w64, int_min, int_max}
use Rattle.std.proofs.lemmas.Int.{to_z-of_z}
use Rattle.cm_number.proofs.Calls.{nearest_is}
use Rattle.cm_number.proofs.hold.Goals as goal

pub returns : goal.returns
returns c =
    to_z-of_z w64 c.clamp.result (record { sfits = c.clamp.type_inv }) ∙ c.clamp.ensures.value
    ∙ (λ i. int_max (to_z-of_z w64 c.args.low c.ranges.low i) (int_min (to_z-of_z w64 c.args.v c.ranges.v i) (to_z-of_z w64 c.args.high c.ranges.high i)))
    ∙ nearest_is c.args.low c.args.high c.args.v c.requires
