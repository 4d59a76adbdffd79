use Rattle.std.proofs.Common.{◌≡◌}
use Rattle.cm_meaning.specs.Types as types
use Rattle.cm_types.specs.Meant.{meant_value, onto}
use Rattle.type_rules.proofs.values.copies.Given as goal

abbrev pub invariant-loop-left : goal.invariant-loop-left
invariant-loop-left l = onto l.all.items (types.copies l.left (meant_value l.value)) ≡ types.copies l.count (meant_value l.value)

abbrev pub decreases-loop-left : goal.decreases-loop-left
decreases-loop-left l = l.left
