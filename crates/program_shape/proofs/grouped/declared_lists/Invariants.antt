use Rattle.std.proofs.Common.{◌≡◌, ◌<◌, take, get_or, vec_len, length, Vec}
use Rattle.std.specs.Prelude.{filter}
use Rattle.std.specs.List.{flat_map}
use Rattle.std.specs.Global.{Global}
use Rattle.cm_base.specs.declared.place.NodeId.{NodeId}
use Rattle.cm_core.specs.declared.link.Group.{Group}
use Rattle.cm_core.specs.Consistent.{is_declared}
use Rattle.program_shape.proofs.grouped.declared_lists.Given as goal

abbrev pub invariant-loop-at : goal.invariant-loop-at
invariant-loop-at l = record {
  len : vec_len l.lists ≡ length l.program.nodes;
  lists : (n : NodeId) (d : Vec NodeId Global) → n.0 < length l.program.nodes → (get_or l.lists.items n.0 d).items ≡ flat_map (λ (g : Group). g.nodes) (filter (is_declared l.program n) (take l.at l.program.groups));
}
