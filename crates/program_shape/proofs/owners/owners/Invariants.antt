use Rattle.std.proofs.Common.{◌≡◌, ◌<◌, ℕ, get_or, vec_len}
use Rattle.cm_base.specs.declared.place.NodeId.{NodeId}
use Rattle.cm_core.specs.Expanded.{no_group}
use Rattle.program_shape.specs.Shape.{IsOwner}
use Rattle.program_shape.proofs.owners.owners.Given as goal

abbrev pub invariant-loop-group : goal.invariant-loop-group
invariant-loop-group l = record {
  len : vec_len l.owners ≡ l.group-index;
  each : (k : ℕ) (d : NodeId) → k < l.group-index → IsOwner l.program (get_or l.program.groups k no_group) (get_or l.owners.items k d);
}
