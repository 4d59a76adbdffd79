-- What the steps of a search keep of a graph.
use Rattle.std.specs.Prelude.{ℕ, ◌<◌, ◌≡◌, ◌==◌, if◌then◌else◌, false, Some, None, List, Vec, vec_len, count_by, slice_index, slice_index_or}
use Rattle.std.specs.List.{filter_map}
use Rattle.std.specs.Global.{Global}
use Rattle.graph_search.specs.Edges.{IsBefore, member}
use Rattle.graph_search.specs.Orders.{unmet_of}
use Rattle.graph_search.specs.declared.edges.Edge.{Edge}

-- where the edges from p lead, in order
abbrev pub targets : List Edge → ℕ → List ℕ
targets es p = filter_map (λ e. if e.from == p then Some e.to else None) es

-- for each node below n where its edges lead
abbrev pub AreTargets : List Edge → ℕ → Vec (Vec ℕ Global) Global → Type 0
AreTargets es n lists =
    (vec_len lists ≡ n) × ((p : ℕ) (d : Vec ℕ Global) → p < n → (slice_index_or lists.items p d).items ≡ targets es p)

-- for each node below n how many edges into it come from a node that isn't placed
abbrev pub AreUnmet : List Edge → List ℕ → ℕ → Vec ℕ Global → Type 0
AreUnmet es placed n counts = (vec_len counts ≡ n) × ((q : ℕ) → slice_index counts.items q ≡ unmet_of es placed q)

-- exactly the nodes below n with a count of 0 are placed
abbrev pub TellPlaced : ℕ → List ℕ → List ℕ → Type 0
TellPlaced n counts placed = (q : ℕ) → q < n → (slice_index counts q == 0) ≡ member q placed

-- how often q stands in the list
abbrev pub count_of : ℕ → List ℕ → ℕ
count_of q xs = count_by (λ x. x == q) xs

-- p is a node that isn't placed, and an edge leads from it to q
abbrev pub Blocks : List Edge → ℕ → List ℕ → ℕ → ℕ → Type 0
Blocks es n placed p q = (p < n) × (member p placed ≡ false) × IsBefore es p q
