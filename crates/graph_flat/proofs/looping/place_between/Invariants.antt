use Rattle.std.proofs.Common.{◌≡◌, ◌-◌, true, length, drop}
use Rattle.std.specs.List.{list_any}
use Rattle.graph_flat.specs.Edges.{leads}
use Rattle.graph_flat.proofs.looping.place_between.Given as goal

abbrev pub invariant-loop-at : goal.invariant-loop-at
invariant-loop-at l = list_any (leads l.from l.to) (drop l.at l.connections) ≡ true

abbrev pub decreases-loop-at : goal.decreases-loop-at
decreases-loop-at l = length l.connections - l.at
