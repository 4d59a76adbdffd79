-- What written points and connections stand for: docs/LANGUAGE.md, "Graphs".
use Rattle.std.specs.Prelude.{ℕ, ℤ, pos, negsuc, Bool, true, false, not, ◌&&◌, List, [], ◌∷◌, map, Option, Some, None, is_none, option_map, unwrap_or, slice_get, slice_index_or, if◌then◌else◌}
use Rattle.std.specs.List.{flat_map, zip}
use Rattle.cm_base.specs.declared.place.NodeId.{NodeId}
use Rattle.cm_base.specs.declared.place.EndId.{EndId}
use Rattle.cm_core.specs.declared.program.End.{End}
use Rattle.cm_core.specs.declared.program.Program.{Program}
use Rattle.cm_core.specs.declared.link.Group.{Group}
use Rattle.cm_core.specs.declared.link.Side.{Side}
use Rattle.cm_core.specs.declared.link.Link.{Link}
use Rattle.cm_core.specs.declared.link.Connection.{Connection}
use Rattle.cm_core.specs.Tree.{node_at, end_at, is_input}

abbrev pub no_group : Group
no_group = record { nodes = []; array = false; own = false }

abbrev pub group_at : Program → Side → Group
group_at p s = slice_index_or p.groups s.group no_group

-- the element at an index, which a single node and an index out of range don't have
abbrev pub element : Group → ℤ → Option NodeId
element g (pos i) = if g.array then slice_get g.nodes i else None
element g (negsuc i) = None

-- the instances that a point stands for: with an index the element, and else all of its group
abbrev pub picked : Group → Option ℤ → Option (List NodeId)
picked g None = Some g.nodes
picked g (Some i) = option_map (λ n. n ∷ []) (element g i)

-- whether the point stands for an array, also for one of one element
abbrev pub is_spread : Program → Side → Bool
is_spread p s = (group_at p s).array && is_none s.index

-- the endpoint of an instance that has this number in its declaration
abbrev pub end_id : Program → ℕ → NodeId → EndId
end_id p e n = slice_index_or (node_at p n).ends e (record { 0 = 0 })

-- the endpoints that a point stands for
abbrev pub ends_of : Program → Side → List EndId
ends_of p s = map (end_id p s.end) (unwrap_or (picked (group_at p s) s.index) [])

-- an endpoint that a point names, as it is declared: that of the first element
abbrev pub declared_end : Program → Side → End
declared_end p s = end_at p (end_id p s.end (slice_index_or (group_at p s).nodes 0 (record { 0 = 0 })))

-- a source is an input of the graph itself or an output of a node; a destination is the other way round
abbrev pub is_source : Program → Side → Bool
is_source p s = if (group_at p s).own then is_input (declared_end p s).flow else not (is_input (declared_end p s).flow)

abbrev pub delay_of : Option ℤ → ℕ
delay_of None = 0
delay_of (Some (pos d)) = d
delay_of (Some (negsuc d)) = 0

-- two arrays are connected pairwise; else one is connected to each, or each to one
abbrev pub pairs : Bool → List EndId → List EndId → List (EndId × EndId)
pairs true xs ys = zip xs ys
pairs false xs ys = flat_map (λ x. map (λ y. (x, y)) ys) xs

abbrev pub connection_of : Link → EndId × EndId → Connection
connection_of l ends = record { from = ends.0; to = ends.1; delay = delay_of l.delay; place = l.place }

-- the connections that a written one stands for
abbrev pub expanded : Program → Link → List Connection
expanded p l = map (connection_of l) (pairs (is_spread p l.from && is_spread p l.to) (ends_of p l.from) (ends_of p l.to))

-- all connections, in the order in which they are written, and then by index
abbrev pub connections : Program → List Connection
connections p = flat_map (expanded p) p.links
