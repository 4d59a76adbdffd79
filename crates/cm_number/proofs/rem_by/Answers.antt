use Rattle.std.proofs.Common.{◌∙◌}
use Rattle.std.specs.Int.{w64}
use Rattle.std.proofs.lemmas.Int.{to_z-of_z}
use Rattle.cm_number.proofs.Calls.{remainder_result}
use Rattle.cm_number.proofs.rem_by.Goals as goal

pub returns : goal.returns
returns c =
    to_z-of_z w64 c.wrapping_rem.result (record { sfits = c.wrapping_rem.type_inv }) ∙ c.wrapping_rem.ensures
    ∙ remainder_result c.args.v c.args.d c.ranges.v c.ranges.d
