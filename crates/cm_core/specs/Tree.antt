-- The tree of instances, its leaves, and the endpoints where chains start and end: docs/LANGUAGE.md, "Graphs".
use Rattle.std.specs.Prelude.{ℕ, Bool, true, false, not, zero, suc, ◌==◌, List, [], ◌∷◌, ◌++◌, length, filter, position, Option, option_map, unwrap_or, slice_get, slice_index_or}
use Rattle.std.specs.List.{flat_map, list_any}
use Rattle.cm_base.specs.declared.host.Flow.{Flow}
use Rattle.cm_base.specs.declared.host.Flow.TheVariants.{Input, Output}
use Rattle.cm_base.specs.declared.host.Kind.TheVariants.{Stream}
use Rattle.cm_base.specs.declared.host.Scalar.TheVariants.{Int32}
use Rattle.cm_base.specs.declared.place.NodeId.{NodeId}
use Rattle.cm_base.specs.declared.place.EndId.{EndId}
use Rattle.cm_core.specs.declared.core_type.BaseType.TheVariants as base
use Rattle.cm_core.specs.declared.program.Body.{Body}
use Rattle.cm_core.specs.declared.program.Body.TheVariants as body
use Rattle.cm_core.specs.declared.program.Node.{Node}
use Rattle.cm_core.specs.declared.program.End.{End}
use Rattle.cm_core.specs.declared.program.Program.{Program}
use Rattle.cm_core.specs.declared.flat.Leaf.{Leaf}
use Rattle.cm_core.specs.declared.flat.Point.{Point}

-- the instance of this number; where there is none, a leaf without endpoints
abbrev pub no_node : Node
no_node = record { path = []; body = body.Leaf 0; ends = [] }

abbrev pub node_at : Program → NodeId → Node
node_at p n = slice_index_or p.nodes n.0 no_node

-- the endpoint of this number; where there is none, an input without a name
abbrev pub no_end : End
no_end = record { flow = Input; kind = Stream; name = []; ty = record { base = base.Scalar Int32; lengths = [] }; shape = [] }

abbrev pub end_at : Program → EndId → End
end_at p e = slice_index_or p.ends e.0 no_end

-- the instances of which a graph is made; a leaf has none
abbrev pub children : Body → List NodeId
children (body.Leaf u) = []
children (body.Graph ns) = ns

-- a leaf itself, or the leaves below the instances of a graph, one after the other
abbrev pub leaves_of : (NodeId → List NodeId) → NodeId → Body → List NodeId
leaves_of below n (body.Leaf u) = n ∷ []
leaves_of below n (body.Graph ns) = flat_map below ns

-- the leaves at an instance and less than d levels below it, depth first
abbrev pub leaves_below : Program → ℕ → NodeId → List NodeId
leaves_below p zero n = []
leaves_below p (suc d) n = leaves_of (leaves_below p d) n (node_at p n).body

-- the leaves of the program: the tree has fewer levels than instances
abbrev pub leaf_nodes : Program → List NodeId
leaf_nodes p = leaves_below p (length p.nodes) p.main

abbrev pub unit_of : Body → ℕ
unit_of (body.Leaf u) = u
unit_of (body.Graph ns) = 0

abbrev pub leaf_of : Program → NodeId → Leaf
leaf_of p n = record {
  node = n;
  unit = unit_of (node_at p n).body;
  path = (node_at p n).path;
  latency = unwrap_or (option_map (λ u. u.latency) (slice_get p.units (unit_of (node_at p n).body))) 0;
}

abbrev pub is_input : Flow → Bool
is_input Input = true
is_input Output = false

abbrev pub inputs : Program → NodeId → List EndId
inputs p n = filter (λ e. is_input (end_at p e).flow) (node_at p n).ends

abbrev pub outputs : Program → NodeId → List EndId
outputs p n = filter (λ e. not (is_input (end_at p e).flow)) (node_at p n).ends

-- chains start at the inputs of the host, and then at the outputs of the leaves, each in declaration order
abbrev pub starts : Program → List EndId
starts p = inputs p p.main ++ flat_map (outputs p) (leaf_nodes p)

-- and end at the outputs of the host and at the inputs of the leaves
abbrev pub targets : Program → List EndId
targets p = outputs p p.main ++ flat_map (inputs p) (leaf_nodes p)

abbrev pub is_among : EndId → List EndId → Bool
is_among e es = list_any (λ (x : EndId). x.0 == e.0) es

-- the number of the leaf that has the endpoint; an endpoint of the host has none
abbrev pub leaf_with : Program → EndId → Option ℕ
leaf_with p e = position (λ n. is_among e (node_at p n).ends) (leaf_nodes p)

abbrev pub point_at : Program → EndId → Point
point_at p e = record { leaf = option_map (λ (k : ℕ). record { 0 = k }) (leaf_with p e); end = e }
