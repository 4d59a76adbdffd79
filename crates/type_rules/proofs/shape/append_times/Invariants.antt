use Rattle.std.proofs.Common.{◌≡◌, ◌++◌}
use Rattle.cm_meaning.specs.Types as types
use Rattle.type_rules.proofs.shape.append_times.Given as goal

abbrev pub invariant-loop-left : goal.invariant-loop-left
invariant-loop-left l = l.kinds.items ++ types.times l.left l.block ≡ l.initial.kinds.items ++ types.times l.count l.block

abbrev pub decreases-loop-left : goal.decreases-loop-left
decreases-loop-left l = l.left
