use Rattle.std.proofs.Common.{◌≡◌, ◌≤◌, ◌-◌, ◌^◌, ◌+◌, length}
use Rattle.cm_core.specs.Measures as measures
use Rattle.memory_layout.specs.Graphs.{linked_of}
use Rattle.memory_layout.specs.Held.{held}
use Rattle.memory_layout.proofs.graph.Graph.host_size.Given as goal

abbrev pub invariant-loop-first : goal.invariant-loop-first
invariant-loop-first l =
    (length l.rest ≤ length l.all) × ((l.size ≤ 2 ^ 64 - 1)
    × (held (l.size + measures.host_size (linked_of l.self) (length l.all - length l.rest) l.rest) ≡ held (measures.host_size (linked_of l.self) 0 l.all)))

abbrev pub decreases-loop-first : goal.decreases-loop-first
decreases-loop-first l = length l.rest
