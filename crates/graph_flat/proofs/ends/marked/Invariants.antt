use Rattle.std.proofs.Common.{◌≡◌, take, get_or, false, vec_len}
use Rattle.cm_base.specs.declared.place.EndId.{EndId}
use Rattle.cm_core.specs.Tree.{is_among}
use Rattle.graph_flat.proofs.ends.marked.Given as goal

abbrev pub invariant-loop-end : goal.invariant-loop-end
invariant-loop-end l = record {
  len : vec_len l.marks ≡ l.count;
  marked : (e : EndId) → get_or l.marks.items e.0 false ≡ is_among e (take l.end-index l.ends);
}
