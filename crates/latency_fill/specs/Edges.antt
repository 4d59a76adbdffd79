-- The edges along which arrivals are summed.
use Rattle.std.specs.Prelude.{ℕ, Bool, true, ◌≡◌, ◌==◌, ◌<◌, if◌then◌else◌, List, Option, Some, None, Vec, slice_index_or}
use Rattle.std.specs.List.{filter_map}
use Rattle.std.specs.Global.{Global}
use Rattle.cm_base.specs.declared.place.LeafId.{LeafId}
use Rattle.cm_core.specs.declared.flat.Chain.{Chain}
use Rattle.graph_search.specs.declared.edges.Edge.{Edge}
use Rattle.latency_fill.specs.Walks.{is_timed}

abbrev pub edge_between : Bool → Option LeafId → Option LeafId → Option Edge
edge_between true (Some from) (Some to) = Some (record { from = from.0; to = to.0 })
edge_between _ _ _ = None

-- the edge of a timed chain from a leaf to a leaf
abbrev pub timed_edge : Chain → Option Edge
timed_edge chain = edge_between (is_timed chain) chain.from.leaf chain.to.leaf

-- where the edges to q come from, in order
abbrev pub sources : List Edge → ℕ → List ℕ
sources es q = filter_map (λ e. if e.to == q then Some e.from else None) es

-- for each node below n where the edges to it come from
abbrev pub AreSources : List Edge → ℕ → List (Vec ℕ Global) → Type 0
AreSources es n lists = (p : ℕ) (d : Vec ℕ Global) → p < n → (slice_index_or lists p d).items ≡ sources es p

abbrev pub source_between : Bool → Option LeafId → Option LeafId → Option ℕ
source_between true (Some from) None = Some from.0
source_between _ _ _ = None

-- the leaf from which a timed chain leads to the host
abbrev pub host_source : Chain → Option ℕ
host_source chain = source_between (is_timed chain) chain.from.leaf chain.to.leaf
