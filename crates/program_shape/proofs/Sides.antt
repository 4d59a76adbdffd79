-- Points whose group and endpoint are there, and the graphs in which they stand.
use Rattle.std.proofs.Common.{◌≡◌, ℕ, ◌<◌, Bool, true, false, not, List, length, get_or, ap, ◌∙◌, sym, arith, map, All, subst}
use Rattle.std.specs.Prelude.{Contains, ◌&&◌, ◌||◌, ◌==◌}
use Rattle.std.proofs.lemmas.List.{get_or_default, length-map}
use Rattle.std.proofs.lemmas.Grind.{common_steps}
use Rattle.cm_base.specs.declared.place.NodeId.{NodeId}
use Rattle.cm_core.specs.declared.program.Program.{Program}
use Rattle.cm_core.specs.declared.link.Group.{Group}
use Rattle.cm_core.specs.declared.link.Side.{Side}
use Rattle.cm_core.specs.declared.link.Link.{Link}
use Rattle.cm_core.specs.Tree.{node_at, end_at}
use Rattle.cm_core.specs.Expanded.{group_at}
use Rattle.cm_core.specs.Consistent.{IsGroup, IsSide, IsLink, is_declared, stands_in}
use Rattle.program_shape.specs.Shape.{IsOwner, AreOwners}

contained : {X : Type 0} (xs : List X) (i : ℕ) (d : X) → i < length xs → Contains xs (get_or xs i d)
contained xs i d lt = (i, lt, get_or_default xs i (get_or xs i d) d lt)

-- what the first instance has, all have
pub all_have : (p : Program) (g : Group) (e : ℕ) → IsGroup p g → e < length (node_at p (get_or g.nodes 0 (record { 0 = 0 }))).ends → All (λ (n : NodeId). e < length (node_at p n).ends) g.nodes
all_have p g e h lt k d le =
    let first = get_or g.nodes 0 (record { 0 = 0 }) in
    let other = get_or g.nodes k d in
    let same : map (end_at p) (node_at p first).ends ≡ map (end_at p) (node_at p other).ends = h.alike first other (contained g.nodes 0 (record { 0 = 0 }) h.some) (contained g.nodes k d le) in
    let len : length (node_at p first).ends ≡ length (node_at p other).ends = sym (length-map (node_at p first).ends (end_at p)) ∙ ap length same ∙ length-map (node_at p other).ends (end_at p) in
    rw len at lt

either : (b : Bool) (n : ℕ) → ((b && (n == n)) || (not b && (n == n))) ≡ true
either true n = grind (arith, common_steps)
either false n = grind (arith, common_steps)

-- a point stands in the graph of its group
pub stands : (p : Program) (owners : List NodeId) (s : Side) (d : NodeId) → AreOwners p owners → s.group < length p.groups → stands_in p (get_or owners s.group d) s ≡ true
stands p owners s d h lt =
    let n = get_or owners s.group d in
    let o : IsOwner p (group_at p s) n = h.each s.group d lt in
    ap (λ (b : Bool). b || is_declared p n (group_at p s)) (o.own n) ∙ ap (λ (b : Bool). ((group_at p s).own && (n.0 == n.0)) || b) (o.declared n) ∙ either (group_at p s).own n.0

pub same_graph : (p : Program) (owners : List NodeId) (l : Link) → AreOwners p owners → IsSide p l.from → IsSide p l.to → get_or owners l.from.group (record { 0 = 0 }) ≡ get_or owners l.to.group (record { 0 = 0 }) → IsLink p l
same_graph p owners l h from to e =
    let n = get_or owners l.from.group (record { 0 = 0 }) in
    let o : IsOwner p (group_at p l.from) n = h.each l.from.group (record { 0 = 0 }) from.group in
    record {
      from = from;
      to = to;
      graph = (n, o.graph, stands p owners l.from (record { 0 = 0 }) h from.group, subst (λ (m : NodeId). stands_in p m l.to ≡ true) (sym e) (stands p owners l.to (record { 0 = 0 }) h to.group));
    }
