use Rattle.std.proofs.Common.{◌≡◌, ◌↔◌, drop, length}
use Rattle.cm_base.specs.Scripts.{HasShape}
use Rattle.slot_codec.proofs.kind.has_shape.Given as goal

abbrev pub invariant-loop-i : goal.invariant-loop-i
invariant-loop-i l = (length l.shape ≡ length l.values) × (HasShape l.shape l.values ↔ HasShape (drop l.i l.shape) (drop l.i l.values))
