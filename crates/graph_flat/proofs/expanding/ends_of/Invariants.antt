use Rattle.std.proofs.Common.{◌≡◌, take}
use Rattle.std.specs.Prelude.{map}
use Rattle.cm_core.specs.Expanded.{end_id}
use Rattle.graph_flat.proofs.expanding.ends_of.Given as goal

abbrev pub invariant-loop-node : goal.invariant-loop-node
invariant-loop-node l = l.ends.items ≡ map (end_id l.program l.side.end) (take l.node-index l.nodes)
