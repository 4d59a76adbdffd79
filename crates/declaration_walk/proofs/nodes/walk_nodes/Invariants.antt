use Rattle.cm_meaning.specs.PatchSites.{node_sites}
use Rattle.scope_walk.specs.Steps.{Reads}
use Rattle.std.proofs.Common.{flat_map, take}
use Rattle.declaration_walk.proofs.nodes.walk_nodes.Given as goal

abbrev pub invariant-loop-node : goal.invariant-loop-node
invariant-loop-node l = Reads l.fn.steps l.steps (λ r. flat_map (node_sites r) (take l.node-index l.nodes))
