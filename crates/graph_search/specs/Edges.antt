-- Edges of a directed graph between nodes, which are numbers.
use Rattle.std.specs.Prelude.{ℕ, Bool, true, ◌==◌, ◌&&◌, ◌≡◌, ◌<◌, List, All, nat_eq}
use Rattle.std.specs.List.{list_any}
use Rattle.graph_search.specs.declared.edges.Edge.{Edge}

-- both ends of each edge are below n
abbrev pub AreWithin : ℕ → List Edge → Type 0
AreWithin n es = All (λ e. (e.from < n) × (e.to < n)) es

-- an edge leads from p to q
abbrev pub IsBefore : List Edge → ℕ → ℕ → Type 0
IsBefore es p q = list_any (λ e. (e.from == p) && (e.to == q)) es ≡ true

-- whether q is in the list
abbrev pub member : ℕ → List ℕ → Bool
member q xs = list_any (nat_eq q) xs
