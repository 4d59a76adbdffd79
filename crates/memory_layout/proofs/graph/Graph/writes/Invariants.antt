use Rattle.std.proofs.Common.{◌≡◌, ◌++◌, length, map, Some}
use Rattle.cm_base.specs.declared.place.EndId.{EndId}
use Rattle.cm_core.specs.Linked.{leaf_ends}
use Rattle.cm_core.specs.Measures.{chains_size}
use Rattle.memory_layout.specs.Graphs.{linked_of, handled_in}
use Rattle.memory_layout.specs.Held.{held}
use Rattle.memory_layout.proofs.graph.Graph.writes.Given as goal

abbrev pub invariant-loop-first : goal.invariant-loop-first
invariant-loop-first l =
    (l.found.items ++ map (λ (e : EndId). held (chains_size (linked_of l.self) (handled_in (linked_of l.self) l.handlers) (record { leaf = Some l.leaf; end = e }))) l.rest)
    ≡ map (λ (e : EndId). held (chains_size (linked_of l.self) (handled_in (linked_of l.self) l.handlers) (record { leaf = Some l.leaf; end = e }))) (leaf_ends (linked_of l.self) l.leaf.0)

abbrev pub decreases-loop-first : goal.decreases-loop-first
decreases-loop-first l = length l.rest
