use Rattle.std.proofs.Common.{sym, ap, ◌∙◌}
use Rattle.std.specs.Prelude.{FitsSigned, unsigned_abs}
use Rattle.std.specs.Int.{w64, int_rem_euclid}
use Rattle.std.proofs.lemmas.Int.{to_z-of_z}
use Rattle.cm_number.proofs.Conversions.{floor_modulus_is}
use Rattle.cm_number.proofs.floor_mod.Goals as goal

pub returns : goal.returns
returns c =
    let divisor : FitsSigned w64 c.from.result = record { sfits = c.from.type_inv } in
    let inner : FitsSigned w64 c.rem_euclid.result = record { sfits = c.rem_euclid.type_inv } in
    ap unsigned_abs (to_z-of_z w64 c.rem_euclid.result inner ∙ c.rem_euclid.ensures.value
    ∙ (λ i. int_rem_euclid (to_z-of_z w64 c.args.v c.ranges.v i) (to_z-of_z w64 c.from.result divisor i))
    ∙ ap (int_rem_euclid c.args.v) c.from.ensures)
    ∙ sym (floor_modulus_is c.args.v c.args.n)
