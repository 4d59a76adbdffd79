use Rattle.std.proofs.Common.{◌≡◌, ◌++◌, take, length, map, reverse, All}
use Rattle.std.specs.Prelude.{sum_by}
use Rattle.std.specs.List.{flat_map}
use Rattle.cm_core.specs.Routes.{routes_from}
use Rattle.graph_flat.specs.declared.paths.Path.{Path}
use Rattle.graph_flat.specs.Paths.{paths_on, path_of, steps_from, IsLow}
use Rattle.graph_flat.specs.Wires.{IsReady}
use Rattle.graph_flat.proofs.searching.search.Given as goal

abbrev pub invariant-loop-start : goal.invariant-loop-start
invariant-loop-start l = record {
  all : flat_map (paths_on l.wires.connections.items l.wires.targets.items (length l.wires.rows.items)) l.stack.items
      ≡ map path_of (flat_map (routes_from l.wires.connections.items l.wires.targets.items (length l.wires.rows.items)) (take l.start-index l.starts));
  low : (r : IsReady (length l.wires.rows.items) l.wires) → All (IsLow (length l.wires.rows.items) r.rank) l.stack.items;
}

abbrev pub invariant-loop-path : goal.invariant-loop-path
invariant-loop-path l = record {
  all : flat_map (paths_on l.wires.connections.items l.wires.targets.items (length l.wires.rows.items)) l.stack.items ++ reverse l.found.items
      ≡ map path_of (flat_map (routes_from l.wires.connections.items l.wires.targets.items (length l.wires.rows.items)) l.starts);
  low : (r : IsReady (length l.wires.rows.items) l.wires) → All (IsLow (length l.wires.rows.items) r.rank) l.stack.items;
}

abbrev pub decreases-loop-path : goal.decreases-loop-path
decreases-loop-path l = sum_by (λ (x : Path). steps_from l.wires.connections.items l.wires.targets.items (length l.wires.rows.items) x.to) l.stack.items
