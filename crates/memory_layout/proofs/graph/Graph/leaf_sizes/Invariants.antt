use Rattle.std.proofs.Common.{◌≡◌, ◌≤◌, length, drop, vec_len}
use Rattle.memory_layout.specs.Graphs.{linked_of}
use Rattle.memory_layout.proofs.InOrder.{AreSized}
use Rattle.memory_layout.proofs.graph.Graph.leaf_sizes.Given as goal

-- the leaves from `left` on are measured
abbrev pub invariant-loop-left : goal.invariant-loop-left
invariant-loop-left l =
    (vec_len l.leaves ≡ length l.self.flat.now.leaves) × ((vec_len l.handlers ≡ length l.self.flat.now.leaves) × ((l.left ≤ length l.self.order.now)
    × AreSized (linked_of l.self) (drop l.left l.self.order.now) l.leaves.items l.handlers.items))

abbrev pub decreases-loop-left : goal.decreases-loop-left
decreases-loop-left l = l.left
