use Rattle.std.proofs.Common.{sym, subst}
use Rattle.const_values.specs.Names.{IsSoundArgument}
use Rattle.const_values.proofs.names.value_named.Goals as goal

pub returns-in-Some-OfValue-clause-sound : goal.returns-in-Some-OfValue-clause-sound
returns-in-Some-OfValue-clause-sound g c =
    subst IsSoundArgument c.in-Some-OfValue.field-0-is (c.requires c.in-Param.position c.in-Some-OfValue.field-0.now (sym c.in-Some-OfValue.ensures))
