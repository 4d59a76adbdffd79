use Rattle.std.proofs.Common.{◌≡◌, ◌≤◌, length, drop, map}
use Rattle.cm_core.specs.Measures as measures
use Rattle.memory_layout.specs.Held.{held}
use Rattle.memory_layout.specs.Scales.{counts_or}
use Rattle.memory_layout.proofs.bodies.body_sizes.Given as goal

-- the functions from `left` on are measured
abbrev pub invariant-loop-left : goal.invariant-loop-left
invariant-loop-left l =
    (length l.sizes.items ≡ length l.unit.functions) × ((l.left ≤ length l.unit.functions)
    × (drop l.left l.sizes.items ≡ map held (measures.body_sizes l.structs l.unit (counts_or l.chains l.beyond) l.left (drop l.left l.unit.functions))))

abbrev pub decreases-loop-left : goal.decreases-loop-left
decreases-loop-left l = l.left
