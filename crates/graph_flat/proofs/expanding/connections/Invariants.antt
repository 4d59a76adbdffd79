use Rattle.std.proofs.Common.{◌≡◌, ◌≤◌, length, take, All}
use Rattle.std.specs.List.{flat_map}
use Rattle.cm_core.specs.Expanded.{expanded}
use Rattle.graph_flat.specs.Sound.{IsSoundLink}
use Rattle.graph_flat.proofs.expanding.connections.Given as goal

abbrev pub invariant-loop-link : goal.invariant-loop-link
invariant-loop-link l = record {
  built : l.found.items ≡ flat_map (expanded l.program) (take l.link-index l.program.links);
  sound : All (IsSoundLink l.program) (take l.link-index l.program.links);
  few : length l.found.items ≤ 262144;
}
