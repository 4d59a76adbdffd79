-- The edges over which the order is sought.
use Rattle.std.specs.Prelude.{Bool, true, ◌==◌, Option, Some, None}
use Rattle.cm_base.specs.declared.place.LeafId.{LeafId}
use Rattle.cm_core.specs.declared.flat.Chain.{Chain}
use Rattle.graph_search.specs.declared.edges.Edge.{Edge}

abbrev pub edge_between : Bool → Option LeafId → Option LeafId → Option Edge
edge_between true (Some from) (Some to) = Some (record { from = from.0; to = to.0 })
edge_between _ _ _ = None

-- the edge of an undelayed chain from a leaf to a leaf
abbrev pub edge_of : Chain → Option Edge
edge_of chain = edge_between (chain.delay == 0) chain.from.leaf chain.to.leaf
