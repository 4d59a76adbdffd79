use Rattle.std.proofs.Common.{sym, subst}
use Rattle.const_values.specs.Names.{IsSoundArgument}
use Rattle.const_values.proofs.names.type_named.Goals as goal

pub returns-in-Some-OfType-clause-sound : goal.returns-in-Some-OfType-clause-sound
returns-in-Some-OfType-clause-sound g c =
    subst IsSoundArgument c.in-Some-OfType.field-0-is (c.requires c.in-Param.position c.in-Some-OfType.field-0.now (sym c.in-Some-OfType.ensures))
