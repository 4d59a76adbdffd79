use Rattle.std.proofs.Common.{◌≡◌, ◌++◌, take}
use Rattle.std.specs.Prelude.{map}
use Rattle.cm_base.specs.declared.place.EndId.{EndId}
use Rattle.cm_core.specs.Expanded.{connection_of}
use Rattle.graph_flat.proofs.expanding.connect_one.Given as goal

abbrev pub invariant-loop-destination : goal.invariant-loop-destination
invariant-loop-destination l = l.found.items ≡ l.initial.found.items ++ map (connection_of l.link) (map (λ (y : EndId). (l.from, y)) (take l.destination-index l.to))
