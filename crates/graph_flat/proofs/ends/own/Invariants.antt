use Rattle.std.proofs.Common.{◌≡◌, take, get_or, None, vec_len}
use Rattle.cm_base.specs.declared.place.EndId.{EndId}
use Rattle.cm_core.specs.Tree.{is_among}
use Rattle.graph_flat.specs.Ends.{first_owner}
use Rattle.graph_flat.proofs.ends.own.Given as goal

abbrev pub invariant-loop-end : goal.invariant-loop-end
invariant-loop-end l = record {
  len : vec_len l.owners ≡ vec_len l.initial.owners;
  owned : (e : EndId) → get_or l.owners.items e.0 None ≡ first_owner (get_or l.initial.owners.items e.0 None) (is_among e (take l.end-index l.ends)) l.leaf;
}
