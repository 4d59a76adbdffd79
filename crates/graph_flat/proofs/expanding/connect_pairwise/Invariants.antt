use Rattle.std.proofs.Common.{◌≡◌, ◌++◌, length, take}
use Rattle.std.specs.Prelude.{map, min}
use Rattle.std.specs.List.{zip}
use Rattle.cm_core.specs.Expanded.{connection_of}
use Rattle.graph_flat.proofs.expanding.connect_pairwise.Given as goal

abbrev pub invariant-loop-at : goal.invariant-loop-at
invariant-loop-at l = record {
  count : l.count ≡ min (length l.from) (length l.to);
  built : l.found.items ≡ l.initial.found.items ++ map (connection_of l.link) (take l.at (zip l.from l.to));
}
