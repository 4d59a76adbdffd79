use Rattle.std.specs.Int.{w64}
use Rattle.std.proofs.Common.{ap, ◌∙◌}
use Rattle.std.proofs.lemmas.Int.{to_z-of_z}
use Rattle.cm_types.specs.Meant.{meant-Single, meant_value}
use Rattle.cm_meaning.specs.Types.{scalar_value}
use Rattle.cm_const.proofs.Sound.{sound_kind}
use Rattle.cm_const.proofs.operations.converted.Goals as goal

pub returns-clause-sound : goal.returns-clause-sound
returns-clause-sound c =
    sound_kind c.args.kind c.args.number _ (meant_value c.scalar_value.result) c.requires (meant-Single c.args.kind)
    (c.scalar_value.ensures ∙ ap (scalar_value c.args.kind) (to_z-of_z w64 c.args.number c.ranges.number))
