-- The connections of a patch, and the chains that they make: docs/LANGUAGE.md, "Graphs".
use Rattle.std.specs.Prelude.{ℕ, zero, suc, ◌+◌, ◌==◌, ◌&&◌, not, Bool, true, false, if◌then◌else◌, List, [], ◌∷◌, ◌++◌, length, map, filter, flat_map, zip, position, Option, Some, None, is_some, unwrap_or, slice_get, bytes_eq}
use Rattle.std.specs.List.{list_any}
use Rattle.cm_base.specs.declared.host.Kind.{Kind}
use Rattle.cm_base.specs.declared.host.Scalar.{Scalar}
use Rattle.cm_base.specs.Parts.{is_input}
use Rattle.cm_tree.specs.declared.path.Word.{Word}
use Rattle.cm_tree.specs.declared.expr.Expr.{Expr}
use Rattle.cm_tree.specs.declared.member.Node.{Node as NodeDecl}
use Rattle.cm_tree.specs.declared.member.Point.{Point as PointDecl}
use Rattle.cm_tree.specs.declared.member.Link.{Link}
use Rattle.cm_tree.specs.declared.file.File.{File}
use Rattle.cm_meaning.specs.Types.{flat}
use Rattle.cm_meaning.specs.Instances.{Instance, member_links}
use Rattle.cm_meaning.specs.Nodes.{Tree, Grown, Groups, NoGroups, Group, Elements, NoElements, Element, root, constant_in, End, ends_of, Path, Leaf, is_processor, leaves_of}

-- ---- endpoints in the tree

-- an endpoint of an instance of the tree, by its number there
pub record Spot : Type 0 where
  pub path : Path
  pub end : ℕ

abbrev pub spot : Path → ℕ → Spot
spot path end = record { path = path; end = end }

unfoldable pub is_path : Path → Path → Bool
is_path [] [] = true
is_path ((n, k) ∷ p) ((m, j) ∷ q) = (n == m) && ((k == j) && is_path p q)
is_path _ _ = false

abbrev pub is_spot : Spot → Spot → Bool
is_spot a b = is_path a.path b.path && (a.end == b.end)

abbrev pub is_among : Spot → List Spot → Bool
is_among s spots = list_any (is_spot s) spots

-- the number of the endpoint with a name
abbrev pub end_number : List End → Word → ℕ
end_number ends w = unwrap_or (position (λ (x : End). bytes_eq x.declared.word.text w.text) ends) (length ends)

-- ---- what is written

-- a node with its number and its elements
pub record Numbered : Type 0 where
  pub number : ℕ
  pub node : NodeDecl
  pub elements : Elements

abbrev pub group_named : List ℕ → ℕ → Groups → Option Numbered
group_named name n NoGroups = None
group_named name n (Group a elements others) =
    if bytes_eq a.name.text name then Some (record { number = n; node = a; elements = elements }) else group_named name (suc n) others

abbrev pub ends_of_first : List File → Elements → List End
ends_of_first files NoElements = []
ends_of_first files (Element tree others) = ends_of files (root tree)

-- an endpoint of each element, from the element of this number on
abbrev pub element_spots : Path → ℕ → ℕ → ℕ → Elements → List Spot
element_spots path n end k NoElements = []
element_spots path n end k (Element tree others) = spot (path ++ (n, k) ∷ []) end ∷ element_spots path n end (suc k) others

-- what a written point stands for, and whether that is an array
pub record Side : Type 0 where
  pub array : Bool
  pub spots : List Spot

abbrev pub one_spot : List Spot → Side
one_spot spots = record { array = false; spots = spots }

-- the element of an index, or all elements
abbrev pub picked_spots : List File → Instance → Path → Option Expr → ℕ → Numbered → Side
picked_spots files i path None end g = record { array = is_some g.node.count; spots = element_spots path g.number end 0 g.elements }
picked_spots files i path (Some a) end g = one_spot (spot (path ++ (g.number, constant_in files i a) ∷ []) end ∷ [])

abbrev pub node_side : List File → Instance → Path → Option Expr → Word → Option Numbered → Side
node_side files i path index w None = one_spot []
node_side files i path index w (Some g) = picked_spots files i path index (end_number (ends_of_first files g.elements) w) g

-- an endpoint of the graph itself, or one of a node
abbrev pub side_of : List File → Instance → Path → Groups → PointDecl → Side
side_of files i path groups p = by p.end where
  by : Option Word → Side
  by None = one_spot (spot path (end_number (ends_of files i) p.name) ∷ [])
  by (Some w) = node_side files i path p.index w (group_named p.name.text 0 groups)

-- ---- connections

pub record Connection : Type 0 where
  pub from : Spot
  pub to : Spot
  pub delay : ℕ

abbrev pub connection : ℕ → Spot × Spot → Connection
connection delay ends = record { from = ends.0; to = ends.1; delay = delay }

-- two arrays are connected pairwise; else one is connected to each, or each to one
abbrev pub pairs : Side → Side → List (Spot × Spot)
pairs a b = if a.array && b.array then zip a.spots b.spots else flat_map (λ (s : Spot). map (λ (t : Spot). (s, t)) b.spots) a.spots

abbrev pub delay_of : List File → Instance → Option Expr → ℕ
delay_of files i None = 0
delay_of files i (Some a) = constant_in files i a

-- the connections that a written one stands for
abbrev pub expanded : List File → Instance → Path → Groups → Link → List Connection
expanded files i path groups l =
    map (connection (delay_of files i l.delay)) (pairs (side_of files i path groups l.from) (side_of files i path groups l.to))

-- those of a graph in the order in which they are written, and then those of its nodes
abbrev mutual
  pub connections_at : List File → Path → Tree → List Connection
  connections_at files path (Grown i factor below) =
      flat_map (expanded files i path below) (flat_map member_links i.unit.unit.members) ++ group_connections files path 0 below

  pub group_connections : List File → Path → ℕ → Groups → List Connection
  group_connections files path n NoGroups = []
  group_connections files path n (Group a elements others) = element_connections files path n 0 elements ++ group_connections files path (suc n) others

  pub element_connections : List File → Path → ℕ → ℕ → Elements → List Connection
  element_connections files path n k NoElements = []
  element_connections files path n k (Element tree others) =
      connections_at files (path ++ (n, k) ∷ []) tree ++ element_connections files path n (suc k) others

abbrev pub connections_of : List File → Tree → List Connection
connections_of files tree = connections_at files [] tree

-- ---- routes

-- the endpoints of an instance with the flow, from the endpoint of this number on
abbrev pub spots_with : (End → Bool) → Path → ℕ → List End → List Spot
spots_with takes path n [] = []
spots_with takes path n (x ∷ ends) = if takes x then spot path n ∷ spots_with takes path (suc n) ends else spots_with takes path (suc n) ends

abbrev pub takes_in : End → Bool
takes_in x = is_input x.flow

abbrev pub gives_out : End → Bool
gives_out x = not (is_input x.flow)

-- chains start at the inputs of the host, and then at the outputs of the leaves
abbrev pub starts : List End → List Leaf → List Spot
starts host leaves = spots_with takes_in [] 0 host ++ flat_map (λ (leaf : Leaf). spots_with gives_out leaf.path 0 leaf.ends) leaves

-- and end at the outputs of the host and at the inputs of the leaves
abbrev pub targets : List End → List Leaf → List Spot
targets host leaves = spots_with gives_out [] 0 host ++ flat_map (λ (leaf : Leaf). spots_with takes_in leaf.path 0 leaf.ends) leaves

-- a list of connections, each of which starts where the one before ended: its ends and the sum of its delays
abbrev pub Route : Type 0
Route = Connection

abbrev pub with_first : Connection → Route → Route
with_first c r = record { from = c.from; to = r.to; delay = c.delay + r.delay }

-- the routes from an endpoint to the first targets that they meet, of at most so many connections, depth first by the order
-- of connections
abbrev pub routes_from : List Connection → List Spot → ℕ → Spot → List Route
routes_from all goals zero s = []
routes_from all goals (suc most) s =
    flat_map (λ (c : Connection). if is_among c.to goals then c ∷ [] else map (with_first c) (routes_from all goals most c.to))
    (filter (λ (c : Connection). is_spot c.from s) all)

-- no chain visits an endpoint twice, so that none has more connections than there are
abbrev pub routes : List Connection → List End → List Leaf → List Route
routes all host leaves = flat_map (routes_from all (targets host leaves) (length all)) (starts host leaves)

-- ---- chains

-- an endpoint of a leaf, or of the host, by its number there
pub record Point : Type 0 where
  pub leaf : Option ℕ
  pub end : ℕ

pub record Chain : Type 0 where
  pub from : Point
  pub to : Point
  pub kind : Kind
  pub shape : List Scalar
  pub delay : ℕ

abbrev pub leaf_point : ℕ → ℕ → Point
leaf_point i e = record { leaf = Some i; end = e }

abbrev pub host_point : ℕ → Point
host_point k = record { leaf = None; end = k }

-- an endpoint that no leaf has is the host's
abbrev pub point_at : List Leaf → Spot → Point
point_at leaves s = record { leaf = position (λ (leaf : Leaf). is_path leaf.path s.path) leaves; end = s.end }

abbrev pub chain_between : Point → Point → End → ℕ → Chain
chain_between from to x delay = record { from = from; to = to; kind = x.kind; shape = flat x.ty; delay = delay }

abbrev pub leaf_ends : List Leaf → ℕ → List End
leaf_ends leaves i = by (slice_get leaves i) where
  by : Option Leaf → List End
  by None = []
  by (Some leaf) = leaf.ends

abbrev pub ends_at : List End → List Leaf → Option ℕ → List End
ends_at host leaves None = host
ends_at host leaves (Some i) = leaf_ends leaves i

abbrev pub chain_of : List End → List Leaf → Route → List Chain
chain_of host leaves r = by (slice_get (ends_at host leaves (point_at leaves r.from).leaf) r.from.end) where
  by : Option End → List Chain
  by None = []
  by (Some x) = chain_between (point_at leaves r.from) (point_at leaves r.to) x r.delay ∷ []

-- the one chain between the host and an endpoint of a main declaration that is a processor
abbrev pub direct : ℕ → End → Chain
direct k x = if is_input x.flow then chain_between (host_point k) (leaf_point 0 k) x 0 else chain_between (leaf_point 0 k) (host_point k) x 0

abbrev pub all_direct : (End → Bool) → ℕ → List End → List Chain
all_direct takes k [] = []
all_direct takes k (x ∷ ends) = if takes x then direct k x ∷ all_direct takes (suc k) ends else all_direct takes (suc k) ends

abbrev pub chains_of : List File → Tree → List Chain
chains_of files tree =
    if is_processor (root tree)
    then all_direct takes_in 0 (ends_of files (root tree)) ++ all_direct gives_out 0 (ends_of files (root tree))
    else flat_map (chain_of (ends_of files (root tree)) (leaves_of files tree))
    (routes (connections_of files tree) (ends_of files (root tree)) (leaves_of files tree))
