use Rattle.std.proofs.Common.{ap, ◌∙◌}
use Rattle.std.specs.Prelude.{FitsSigned, unsigned_abs}
use Rattle.std.specs.Int.{w32, w128, cast_signed}
use Rattle.std.proofs.lemmas.Int.{to_z-of_z}
use Rattle.cm_number.proofs.Calls.{wrap_result}
use Rattle.cm_number.proofs.wrap32.Goals as goal

pub returns : goal.returns
returns c =
    let inner : FitsSigned w128 c.rem_euclid.result = record { sfits = c.rem_euclid.type_inv } in
    to_z-of_z w32 c.cast_signed.result (record { sfits = c.cast_signed.type_inv }) ∙ c.cast_signed.ensures
    ∙ ap (λ y. cast_signed w32 (unsigned_abs y)) (to_z-of_z w128 c.rem_euclid.result inner ∙ c.rem_euclid.ensures.value)
    ∙ wrap_result w32 c.args.v c.ranges.v
