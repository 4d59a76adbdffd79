use Rattle.std.proofs.Common.{◌≡◌, ◌≤◌, ◌-◌, ◌^◌, ◌+◌, length, sum_by, zip}
use Rattle.cm_core.specs.Measures as measures
use Rattle.memory_layout.specs.Held.{held}
use Rattle.memory_layout.proofs.rings.rings_bytes.Given as goal

abbrev pub invariant-loop-chain : goal.invariant-loop-chain
invariant-loop-chain l =
    (held (l.bytes + sum_by measures.ring_bytes (zip l.rest l.delays)) ≡ held (sum_by measures.ring_bytes (zip l.chains l.extra))) × (l.bytes ≤ 2 ^ 64 - 1)

abbrev pub decreases-loop-chain : goal.decreases-loop-chain
decreases-loop-chain l = length l.rest
