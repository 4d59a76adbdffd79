-- A program with its graph, and what the chains between its leaves and the host carry: docs/LANGUAGE.md, "Frames".
use Rattle.std.specs.Prelude.{ℕ, ◌+◌, ◌==◌, ◌&&◌, Bool, true, false, if◌then◌else◌, List, [], ◌∷◌, map, length, position, zip, Option, Some, None, unwrap_or, slice_get, slice_index_or, ℤ, ◌+ℤ◌}
use Rattle.cm_base.specs.declared.host.Scalar.{Scalar}
use Rattle.cm_base.specs.declared.place.LeafId.{LeafId}
use Rattle.cm_base.specs.declared.place.EndId.{EndId}
use Rattle.cm_scalar.specs.Scalars.{converted}
use Rattle.cm_core.specs.declared.program.Program.{Program}
use Rattle.cm_core.specs.declared.program.End.{End}
use Rattle.cm_core.specs.declared.unit.Unit.{Unit as CoreUnit}
use Rattle.cm_core.specs.declared.flat.Flat.{Flat}
use Rattle.cm_core.specs.declared.flat.Leaf.{Leaf}
use Rattle.cm_core.specs.declared.flat.Chain.{Chain}
use Rattle.cm_core.specs.declared.flat.Point.{Point}
use Rattle.cm_core.specs.declared.filled.Filled.{Filled}
use Rattle.cm_core.specs.Tree.{node_at, no_end}
use Rattle.cm_core.specs.Types.{zeros}
use Rattle.cm_core.specs.World.{World, Sources, LeafState, leaf_at, value_at}

-- a program, its leaves and chains, their extra delays, and the order in which the leaves take their turns
pub record Linked : Type 0 where
  pub program : Program
  pub flat : Flat
  pub filled : Filled
  pub order : List LeafId

-- ---- leaves and endpoints by number

abbrev pub no_unit : CoreUnit
no_unit = record { ends = []; state = []; locals = []; constants = []; functions = []; init = None; main = None; handlers = []; latency = 0; factor = 1 }

abbrev pub no_leaf_id : LeafId
no_leaf_id = record { 0 = 0 }

abbrev pub no_end_id : EndId
no_end_id = record { 0 = 0 }

abbrev pub unit_numbered : Linked → Option Leaf → CoreUnit
unit_numbered l None = no_unit
unit_numbered l (Some leaf) = slice_index_or l.program.units leaf.unit no_unit

-- the unit of a leaf
abbrev pub unit_at : Linked → ℕ → CoreUnit
unit_at l i = unit_numbered l (slice_get l.flat.leaves i)

abbrev pub ends_numbered : Linked → Option Leaf → List EndId
ends_numbered l None = []
ends_numbered l (Some leaf) = (node_at l.program leaf.node).ends

-- the endpoints of a leaf, and of the host
abbrev pub leaf_ends : Linked → ℕ → List EndId
leaf_ends l i = ends_numbered l (slice_get l.flat.leaves i)

abbrev pub host_ends : Linked → List EndId
host_ends l = (node_at l.program l.program.main).ends

-- an endpoint of a leaf, and of the host, by its number there
abbrev pub leaf_point : Linked → ℕ → ℕ → Point
leaf_point l i e = record { leaf = Some (record { 0 = i }); end = slice_index_or (leaf_ends l i) e no_end_id }

abbrev pub host_point : Linked → ℕ → Point
host_point l k = record { leaf = None; end = slice_index_or (host_ends l) k no_end_id }

-- the number of an endpoint among others
abbrev pub number_among : List EndId → EndId → ℕ
number_among ends end = unwrap_or (position (λ (e : EndId). e.0 == end.0) ends) (length ends)

abbrev pub same_leaf : Option LeafId → Option LeafId → Bool
same_leaf None None = true
same_leaf None (Some n) = false
same_leaf (Some m) None = false
same_leaf (Some m) (Some n) = m.0 == n.0

abbrev pub is_point : Point → Point → Bool
is_point a b = same_leaf a.leaf b.leaf && (a.end.0 == b.end.0)

-- ---- streams

-- the sum, scalar by scalar, each wrapping in its kind
abbrev pub sum_of : List Scalar → List ℤ → List ℤ → List ℤ
sum_of [] xs ys = []
sum_of (kind ∷ kinds) [] ys = []
sum_of (kind ∷ kinds) (x ∷ xs) [] = []
sum_of (kind ∷ kinds) (x ∷ xs) (y ∷ ys) = converted kind (x +ℤ y) ∷ sum_of kinds xs ys

-- what all stream sources have in this frame so far
abbrev pub now : World → Sources
now w = record { host = w.streams; leaves = map (λ (leaf : LeafState). leaf.sums) w.leaves }

abbrev pub source_of : Linked → Sources → Option LeafId → EndId → List ℤ
source_of l sources None end = value_at sources.host (number_among (host_ends l) end)
source_of l sources (Some leaf) end = value_at (slice_index_or sources.leaves leaf.0 []) (number_among (leaf_ends l leaf.0) end)

abbrev pub source_then : Linked → Chain → Option Sources → List ℤ
source_then l chain None = zeros (length chain.shape)
source_then l chain (Some sources) = source_of l sources chain.from.leaf chain.from.end

-- what a chain carries now: its source's value so many frames ago, its delay and its extra delay together, and zero
-- before frame 0
abbrev pub carried : Linked → World → Chain × ℕ → List ℤ
carried l w chain = source_then l chain.0 (slice_get (now w ∷ w.history) (chain.0.delay + chain.1))

-- the chains with their extra delays
abbrev pub filled_chains : Linked → List (Chain × ℕ)
filled_chains l = zip l.flat.chains l.filled.extra

-- the sum of what chains carry to a point
abbrev pub arriving : Linked → List (Chain × ℕ) → Point → List Scalar → World → List ℤ
arriving l [] to shape w = zeros (length shape)
arriving l (chain ∷ chains) to shape w =
    if is_point chain.0.to to then sum_of shape (carried l w chain) (arriving l chains to shape w) else arriving l chains to shape w

abbrev pub stream_to : Linked → Point → List Scalar → World → List ℤ
stream_to l to shape w = arriving l (filled_chains l) to shape w

-- ---- values

-- the current value of a value input of the host or a value output of a leaf
abbrev pub current_of : Linked → World → Option LeafId → EndId → List ℤ
current_of l w None end = value_at w.current (number_among (host_ends l) end)
current_of l w (Some leaf) end = value_at (leaf_at leaf.0 w).values (number_among (leaf_ends l leaf.0) end)

abbrev pub current_along : Linked → List Chain → Point → List Scalar → World → List ℤ
current_along l [] to shape w = zeros (length shape)
current_along l (chain ∷ chains) to shape w =
    if is_point chain.to to then current_of l w chain.from.leaf chain.from.end else current_along l chains to shape w

-- the current value of the source of a point, and zero without one
abbrev pub value_to : Linked → Point → List Scalar → World → List ℤ
value_to l to shape w = current_along l l.flat.chains to shape w

-- ---- endpoints of a unit

abbrev pub end_of : CoreUnit → ℕ → End
end_of unit e = slice_index_or unit.ends e no_end
