-- Paths of a directed graph, and how many lead to its ends.
use Rattle.std.specs.Prelude.{ℕ, Bool, true, false, zero, suc, ◌≡◌, ◌<◌, ◌≤◌, List, [], ◌∷◌, length, min, sum_by, slice_index, slice_index_or}
use Rattle.graph_search.specs.Edges.{IsBefore}
use Rattle.graph_search.specs.Counts.{targets}
use Rattle.graph_search.specs.declared.edges.Edge.{Edge}

-- an edge leads from p to the first of these nodes, one from each to the next, and one from the last to q
abbrev pub LeadsThrough : List Edge → ℕ → List ℕ → ℕ → Type 0
LeadsThrough es p [] q = IsBefore es p q
LeadsThrough es p (h ∷ hs) q = IsBefore es p h × LeadsThrough es h hs q

-- at an end a path ends; from any other node the paths go on
abbrev pub counted : Bool → ℕ → ℕ
counted true further = 1
counted false further = further

-- how many paths of at most d edges lead from q to the first end that they meet; edges with the same ends count apart
abbrev pub path_count : List Edge → List Bool → ℕ → ℕ → ℕ
path_count es ends zero q = counted (slice_index_or ends q false) 0
path_count es ends (suc d) q = counted (slice_index_or ends q false) (sum_by (path_count es ends d) (targets es q))

-- for each node below n its paths of any length, held at the limit: more than n edges add none
pub record ArePathCounts (es : List Edge) (ends : List Bool) (n limit : ℕ) (counts : List ℕ) : Type 0 where
  pub count : length counts ≡ n
  pub each : (q d : ℕ) → q < n → n ≤ d → slice_index counts q ≡ min (path_count es ends d q) limit
