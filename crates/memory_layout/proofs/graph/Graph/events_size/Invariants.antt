use Rattle.std.proofs.Common.{◌≡◌, ◌≤◌, ◌-◌, ◌^◌, ◌+◌, length, sum_by}
use Rattle.memory_layout.specs.Events.{event_size}
use Rattle.memory_layout.specs.Graphs.{linked_of, handled_in}
use Rattle.memory_layout.specs.Held.{held}
use Rattle.memory_layout.proofs.graph.Graph.events_size.Given as goal

abbrev pub invariant-loop-first : goal.invariant-loop-first
invariant-loop-first l =
    (held (l.size + sum_by (event_size (linked_of l.self) (handled_in (linked_of l.self) l.sizes) l.leaf) l.rest) ≡ held (sum_by (event_size (linked_of l.self) (handled_in (linked_of l.self) l.sizes) l.leaf) l.events))
    × (l.size ≤ 2 ^ 64 - 1)

abbrev pub decreases-loop-first : goal.decreases-loop-first
decreases-loop-first l = length l.rest
