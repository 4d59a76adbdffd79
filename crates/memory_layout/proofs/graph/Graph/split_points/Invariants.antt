use Rattle.std.proofs.Common.{◌≡◌, ◌≤◌, ◌-◌, ◌^◌, length, max}
use Rattle.cm_core.specs.Measures.{most_splits, split_points}
use Rattle.memory_layout.specs.Graphs.{linked_of}
use Rattle.memory_layout.specs.Held.{held}
use Rattle.memory_layout.proofs.graph.Graph.split_points.Given as goal

abbrev pub invariant-loop-first : goal.invariant-loop-first
invariant-loop-first l = (held (max l.most (most_splits (linked_of l.self) l.rest)) ≡ held (split_points (linked_of l.self))) × (l.most ≤ 2 ^ 64 - 1)

abbrev pub decreases-loop-first : goal.decreases-loop-first
decreases-loop-first l = length l.rest
