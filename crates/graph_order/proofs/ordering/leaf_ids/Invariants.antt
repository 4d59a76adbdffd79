use Rattle.std.proofs.Common.{◌≡◌, take}
use Rattle.graph_order.specs.Before.{numbers}
use Rattle.graph_order.proofs.ordering.leaf_ids.Given as goal

abbrev pub invariant-loop-number : goal.invariant-loop-number
invariant-loop-number l = numbers l.ids.items ≡ take l.number-index l.numbers
