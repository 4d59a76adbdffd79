-- What the parts of the test for a program whose parts fit together say to one another.
use Rattle.std.specs.Prelude.{ℕ, ◌≤◌, ◌^◌, [], nat_eq, Bool, true, false, ◌≡◌, ◌<◌, ◌&&◌, ◌==◌, not, List, All, map, length, Option, Some, None, Vec, vec_len, filter, count_by, slice_index, slice_index_or}
use Rattle.std.specs.List.{list_any, flat_map, IsDistinct}
use Rattle.cm_base.specs.declared.host.HostEnd.{HostEnd}
use Rattle.cm_base.specs.HostEnds.{IsLawful}
use Rattle.std.specs.Global.{Global}
use Rattle.graph_search.specs.declared.edges.Edge.{Edge}
use Rattle.cm_base.specs.declared.place.NodeId.{NodeId}
use Rattle.cm_base.specs.declared.place.EndId.{EndId}
use Rattle.cm_core.specs.declared.program.Node.{Node}
use Rattle.cm_core.specs.declared.program.Program.{Program}
use Rattle.cm_core.specs.declared.link.Group.{Group}
use Rattle.cm_core.specs.Tree.{node_at, end_at, children}
use Rattle.cm_core.specs.Expanded.{no_group}
use Rattle.cm_core.specs.Consistent.{is_in, is_graph, is_own, is_declared, IsNode, IsGroup, IsTree, HasGroups, IsLink, IsHostEnd}

-- these instances have the endpoints of the first
abbrev pub AreAlike : Program → List NodeId → Type 0
AreAlike p ns = All (λ (n : NodeId). map (end_at p) (node_at p (slice_index_or ns 0 (record { 0 = 0 }))).ends ≡ map (end_at p) (node_at p n).ends) ns

-- the endpoints of the instances, and the instances of the graphs
abbrev pub all_ends : List Node → List EndId
all_ends ns = flat_map (λ (n : Node). n.ends) ns

abbrev pub children_of_all : List Node → List NodeId
children_of_all ns = flat_map (λ (n : Node). children n.body) ns

-- the edge from a graph to one of its instances
abbrev pub edge_to : ℕ → NodeId → Edge
edge_to from n = record { from = from; to = n.0 }

-- whether an edge leads from p to q
abbrev pub leads : List Edge → ℕ → ℕ → Bool
leads es p q = list_any (λ (e : Edge). (e.from == p) && (e.to == q)) es

-- an edge leads from each graph to each of its instances
abbrev pub AreEdges : Program → List Edge → Type 0
AreEdges p es = (n m : NodeId) → leads es n.0 m.0 ≡ is_in (children (node_at p n).body) m

abbrev pub is_parent : Option ℕ → ℕ → Bool
is_parent None p = false
is_parent (Some q) p = q == p

-- for each node the one from which an edge leads to it
abbrev pub AreParents : List Edge → List (Option ℕ) → Type 0
AreParents es parents = (p q : ℕ) → is_parent (slice_index_or parents q None) p ≡ leads es p q

-- the graph in which a group stands, and no other
pub record IsOwner (p : Program) (g : Group) (n : NodeId) : Type 0 where
  pub there : n.0 < length p.nodes
  pub graph : is_graph (node_at p n).body ≡ true
  pub own : (k : NodeId) → is_own k g ≡ (g.own && (n.0 == k.0))
  pub declared : (k : NodeId) → is_declared p k g ≡ (not g.own && (n.0 == k.0))

-- for each group the graph in which it stands
pub record AreOwners (p : Program) (owners : List NodeId) : Type 0 where
  pub count : length owners ≡ length p.groups
  pub each : (k : ℕ) (d : NodeId) → k < length p.groups → IsOwner p (slice_index_or p.groups k no_group) (slice_index_or owners k d)

-- each node has at most one parent, the graph that it is in
pub record HasParents (p : Program) (parents : List (Option ℕ)) : Type 0 where
  pub count : length parents ≡ length p.nodes
  pub each : (n m : NodeId) → is_parent (slice_index_or parents m.0 None) n.0 ≡ is_in (children (node_at p n).body) m

-- the parent of these nodes is the graph
abbrev pub AreIn : List (Option ℕ) → ℕ → List NodeId → Type 0
AreIn parents graph ns = All (λ (n : NodeId). slice_index_or parents n.0 None ≡ Some graph) ns

-- for each node the number of groups that it is
abbrev pub AreCounts : Program → Vec ℕ Global → Type 0
AreCounts p counts = (vec_len counts ≡ length p.nodes) × ((n : NodeId) → slice_index counts.items n.0 ≡ count_by (is_own n) p.groups)

-- for each node the instances of the groups that it declares
abbrev pub AreLists : Program → Vec (Vec NodeId Global) Global → Type 0
AreLists p lists = (vec_len lists ≡ length p.nodes)
    × ((n : NodeId) (d : Vec NodeId Global) → n.0 < length p.nodes → (slice_index_or lists.items n.0 d).items ≡ flat_map (λ (g : Group). g.nodes) (filter (is_declared p n) p.groups))

-- numbers within their limits
pub record IsMeasured (p : Program) : Type 0 where
  pub few_nodes : length p.nodes ≤ 16384
  pub few_links : length p.links ≤ 262144
  pub few_ends : length p.ends < 2 ^ 32
  pub main : p.main.0 < length p.nodes
  pub latencies : All (λ unit. unit.latency ≤ 65536) p.units

-- what holds of each instance and group, and of the host
pub record HasParts (p : Program) : Type 0 where
  pub nodes : All (IsNode p) p.nodes
  pub groups : All (IsGroup p) p.groups
  pub host_count : length p.host ≡ length (node_at p p.main).ends
  pub host : (k : ℕ) (d : HostEnd) (e : EndId) → k < length p.host
      → IsHostEnd (slice_index_or p.host k d) (end_at p (slice_index_or (node_at p p.main).ends k e))
  pub lawful : IsLawful p.host
  pub alone : is_graph (node_at p p.main).body ≡ false → p.links ≡ []

-- what holds of instances, groups, endpoints and connections together
pub record IsJoined (p : Program) : Type 0 where
  pub tree : IsTree p
  pub grouped : (n : NodeId) → n.0 < length p.nodes → is_graph (node_at p n).body ≡ true → HasGroups p n
  pub links : All (IsLink p) p.links
  pub ends : IsDistinct nat_eq (map (λ (e : EndId). e.0) (all_ends p.nodes))
  pub ends_all : length (all_ends p.nodes) ≡ length p.ends
