use Rattle.std.proofs.Common.{◌≡◌, take}
use Rattle.cm_types.proofs.value.+copy_value.Given as goal

abbrev pub invariant-copy_values-loop-value : goal.invariant-copy_values-loop-value
invariant-copy_values-loop-value l = l.copies.items ≡ take l.value-index l.values
