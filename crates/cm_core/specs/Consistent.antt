-- When the parts of a program fit together: each number names a part that is there, the instances form a tree, and the
-- groups and endpoints are those of the instances.
use Rattle.std.specs.Prelude.{ℕ, ◌≡◌, ◌<◌, ◌≤◌, ◌^◌, Bool, true, false, not, ◌&&◌, ◌||◌, ◌==◌, nat_eq, List, [], ◌∷◌, length, map, filter, All, Contains, count_by, slice_get, slice_index_or}
use Rattle.std.specs.Option.{IsSomeAnd}
use Rattle.std.specs.List.{flat_map, list_any, list_all, IsDistinct}
use Rattle.cm_base.specs.declared.host.HostEnd.{HostEnd}
use Rattle.cm_base.specs.declared.place.NodeId.{NodeId}
use Rattle.cm_base.specs.declared.place.EndId.{EndId}
use Rattle.cm_base.specs.HostEnds.{IsLawful}
use Rattle.cm_core.specs.declared.program.Body.{Body}
use Rattle.cm_core.specs.declared.program.Body.TheVariants as body
use Rattle.cm_core.specs.declared.program.Node.{Node}
use Rattle.cm_core.specs.declared.program.End.{End}
use Rattle.cm_core.specs.declared.program.Program.{Program}
use Rattle.cm_core.specs.declared.link.Group.{Group}
use Rattle.cm_core.specs.declared.link.Side.{Side}
use Rattle.cm_core.specs.declared.link.Link.{Link}
use Rattle.cm_core.specs.Tree.{node_at, end_at, children}
use Rattle.cm_core.specs.Expanded.{group_at}

-- each instance but main is in one graph, and a graph stands higher than its instances
pub record IsTree (p : Program) : Type 0 where
  pub height : ℕ → ℕ
  pub falls : (n m : NodeId) → Contains (children (node_at p n).body) m → height m.0 < height n.0
  pub low : (n : ℕ) → height n < length p.nodes
  pub once : IsDistinct nat_eq (p.main.0 ∷ map (λ (n : NodeId). n.0) (flat_map (λ (n : Node). children n.body) p.nodes))
  pub all : length (p.main ∷ flat_map (λ (n : Node). children n.body) p.nodes) ≡ length p.nodes

-- a leaf is of a unit that is there and has its endpoints; the instances of a graph are there
abbrev pub HasBody : Program → List EndId → Body → Type 0
HasBody p ends (body.Leaf u) = IsSomeAnd (slice_get p.units u) (λ unit. map (end_at p) ends ≡ unit.ends)
HasBody p ends (body.Graph ns) = All (λ (n : NodeId). n.0 < length p.nodes) ns

pub record IsNode (p : Program) (node : Node) : Type 0 where
  pub ends : All (λ (e : EndId). e.0 < length p.ends) node.ends
  pub inside : HasBody p node.ends node.body

abbrev pub is_graph : Body → Bool
is_graph (body.Leaf u) = false
is_graph (body.Graph ns) = true

-- the instances of a group are there, and have the same endpoints; without an array there is one
pub record IsGroup (p : Program) (group : Group) : Type 0 where
  pub some : 0 < length group.nodes
  pub within : All (λ (n : NodeId). n.0 < length p.nodes) group.nodes
  pub alike : (n m : NodeId) → Contains group.nodes n → Contains group.nodes m
      → map (end_at p) (node_at p n).ends ≡ map (end_at p) (node_at p m).ends
  pub single : group.array ≡ false → length group.nodes ≡ 1
  pub own : group.own ≡ true → (group.array ≡ false) × All (λ (n : NodeId). is_graph (node_at p n).body ≡ true) group.nodes

abbrev pub is_in : List NodeId → NodeId → Bool
is_in ns n = list_any (λ (m : NodeId). m.0 == n.0) ns

-- whether the group is the graph itself, and whether it is a node that the graph declares
abbrev pub is_own : NodeId → Group → Bool
is_own n g = g.own && list_all (λ (m : NodeId). m.0 == n.0) g.nodes

abbrev pub is_declared : Program → NodeId → Group → Bool
is_declared p n g = not g.own && list_all (is_in (children (node_at p n).body)) g.nodes

-- a graph has one group of its own, and those of the nodes that it declares, in order, have its instances
pub record HasGroups (p : Program) (n : NodeId) : Type 0 where
  pub own : count_by (is_own n) p.groups ≡ 1
  pub declared : flat_map (λ (g : Group). g.nodes) (filter (is_declared p n) p.groups) ≡ children (node_at p n).body

-- the group and the endpoint of a point are there
pub record IsSide (p : Program) (side : Side) : Type 0 where
  pub group : side.group < length p.groups
  pub end : All (λ (n : NodeId). side.end < length (node_at p n).ends) (group_at p side).nodes

-- whether the point stands in the graph
abbrev pub stands_in : Program → NodeId → Side → Bool
stands_in p n side = is_own n (group_at p side) || is_declared p n (group_at p side)

pub record IsLink (p : Program) (link : Link) : Type 0 where
  pub from : IsSide p link.from
  pub to : IsSide p link.to
  pub graph : (n : NodeId) × (is_graph (node_at p n).body ≡ true) × (stands_in p n link.from ≡ true) × (stands_in p n link.to ≡ true)

-- what an endpoint of the host and the endpoint of main that it is have in common
abbrev pub IsHostEnd : HostEnd → End → Type 0
IsHostEnd host end = (host.flow ≡ end.flow) × (host.kind ≡ end.kind) × (host.name ≡ end.name) × (host.shape ≡ end.shape)

pub record IsConsistent (p : Program) : Type 0 where
  pub main : p.main.0 < length p.nodes
  pub tree : IsTree p
  pub nodes : All (IsNode p) p.nodes
  pub groups : All (IsGroup p) p.groups
  pub grouped : (n : NodeId) → n.0 < length p.nodes → is_graph (node_at p n).body ≡ true → HasGroups p n
  pub links : All (IsLink p) p.links
  -- a processor alone has no connections
  pub alone : is_graph (node_at p p.main).body ≡ false → p.links ≡ []
  -- each endpoint is of one instance
  pub ends : IsDistinct nat_eq (map (λ (e : EndId). e.0) (flat_map (λ (n : Node). n.ends) p.nodes))
  pub ends_all : length (flat_map (λ (n : Node). n.ends) p.nodes) ≡ length p.ends
  -- the host has the endpoints of main
  pub lawful : IsLawful p.host
  pub host_count : length p.host ≡ length (node_at p p.main).ends
  pub host : (k : ℕ) (d : HostEnd) (e : EndId) → k < length p.host
      → IsHostEnd (slice_index_or p.host k d) (end_at p (slice_index_or (node_at p p.main).ends k e))
  pub latencies : All (λ unit. unit.latency ≤ 65536) p.units
  pub few_nodes : length p.nodes ≤ 16384
  pub few_links : length p.links ≤ 262144
  pub few_ends : length p.ends < 2 ^ 32
