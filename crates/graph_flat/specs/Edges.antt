-- Connections as edges between the numbers of endpoints.
use Rattle.std.specs.Prelude.{ℕ, Bool, ◌==◌, ◌&&◌, ◌≡◌, List, Contains}
use Rattle.cm_base.specs.declared.place.Place.{Place}
use Rattle.cm_core.specs.declared.link.Connection.{Connection}
use Rattle.graph_search.specs.Orders.{IsRanking}
use Rattle.graph_search.specs.declared.edges.Edge.{Edge}

abbrev pub edge_of : Connection → Edge
edge_of c = record { from = c.from.0; to = c.to.0 }

-- whether a connection leads from one endpoint to the other
abbrev pub leads : ℕ → ℕ → Connection → Bool
leads p q c = (c.from.0 == p) && (c.to.0 == q)

-- the place of a connection from one endpoint to the other
abbrev pub IsPlaceBetween : List Connection → ℕ → ℕ → Place → Type 0
IsPlaceBetween cs p q place = (c : Connection) × Contains cs c × (c.from.0 ≡ p) × (c.to.0 ≡ q) × (c.place ≡ place)

abbrev pub HasRanking : List Edge → ℕ → Type 0
HasRanking es n = (ranks : List ℕ) × IsRanking es n ranks
