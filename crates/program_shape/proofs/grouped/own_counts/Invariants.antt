use Rattle.std.proofs.Common.{◌≡◌, take, get_or, vec_len, length}
use Rattle.std.specs.Prelude.{count_by}
use Rattle.cm_base.specs.declared.place.NodeId.{NodeId}
use Rattle.cm_core.specs.Consistent.{is_own}
use Rattle.program_shape.proofs.grouped.own_counts.Given as goal

abbrev pub invariant-loop-at : goal.invariant-loop-at
invariant-loop-at l = record {
  len : vec_len l.counts ≡ length l.program.nodes;
  counts : (n : NodeId) → get_or l.counts.items n.0 0 ≡ count_by (is_own n) (take l.at l.program.groups);
}
