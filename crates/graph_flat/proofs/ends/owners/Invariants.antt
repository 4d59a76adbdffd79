use Rattle.std.proofs.Common.{◌≡◌, take, get_or, None, vec_len, length}
use Rattle.std.specs.Prelude.{option_map, position}
use Rattle.cm_base.specs.declared.place.EndId.{EndId}
use Rattle.cm_base.specs.declared.place.NodeId.{NodeId}
use Rattle.cm_core.specs.Tree.{is_among, node_at}
use Rattle.graph_flat.specs.Ends.{leaf_id}
use Rattle.graph_flat.proofs.ends.owners.Given as goal

abbrev pub invariant-loop-at : goal.invariant-loop-at
invariant-loop-at l = record {
  len : vec_len l.owners ≡ length l.program.ends;
  owners : (e : EndId) → get_or l.owners.items e.0 None ≡ option_map leaf_id (position (λ (n : NodeId). is_among e (node_at l.program n).ends) (take l.at l.leaves));
}
