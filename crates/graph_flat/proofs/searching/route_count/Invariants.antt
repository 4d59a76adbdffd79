use Rattle.std.proofs.Common.{◌≡◌, take, length}
use Rattle.std.specs.Prelude.{min}
use Rattle.std.specs.List.{flat_map}
use Rattle.cm_core.specs.Routes.{routes_from}
use Rattle.graph_flat.proofs.searching.route_count.Given as goal

abbrev pub invariant-loop-start : goal.invariant-loop-start
invariant-loop-start l = (l.limit ≡ 65537) × (l.total ≡ min (length (flat_map (routes_from l.wires.connections.items l.wires.targets.items (length l.wires.rows.items)) (take l.start-index l.starts))) 65537)
