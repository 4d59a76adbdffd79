-- Orders, cycles and rankings of a directed graph.
use Rattle.std.specs.Prelude.{ℕ, ◌+◌, ◌-◌, ◌<◌, ◌≤◌, ◌≡◌, ◌==◌, ◌&&◌, not, true, false, nat_eq, count_by, List, length, take, slice_index}
use Rattle.std.specs.List.{IsDistinct}
use Rattle.graph_search.specs.Edges.{IsBefore, member}
use Rattle.graph_search.specs.declared.edges.Edge.{Edge}
use Rattle.graph_search.specs.declared.failure.SearchFail.{SearchFail}
use Rattle.graph_search.specs.declared.failure.SearchFail.TheVariants.{Cycle, NoMemory}

-- how many edges into q come from a node that isn't placed
abbrev pub unmet_of : List Edge → List ℕ → ℕ → ℕ
unmet_of es placed q = count_by (λ e. (e.to == q) && not (member e.from placed)) es

-- q is the least node that isn't placed and whose predecessors are all placed
pub record IsNext (es : List Edge) (n : ℕ) (placed : List ℕ) (q : ℕ) : Type 0 where
  pub within : q < n
  pub unplaced : member q placed ≡ false
  pub ready : unmet_of es placed q ≡ 0
  pub least : (k : ℕ) → k < q → member k placed ≡ false → 0 < unmet_of es placed k

-- each node of the list is the next one after those in front of it
abbrev pub IsPlaced : List Edge → ℕ → List ℕ → Type 0
IsPlaced es n ls = (i : ℕ) → i < length ls → IsNext es n (take i ls) (slice_index ls i)

-- the order of the nodes below n: each is there once, and is the next one after those in front of it
pub record IsOrder (es : List Edge) (n : ℕ) (ls : List ℕ) : Type 0 where
  pub placed : IsPlaced es n ls
  pub all : (q : ℕ) → q < n → member q ls ≡ true
  pub count : length ls ≡ n

-- distinct nodes, with an edge from each to the next and from the last to the first
pub record IsCycle (es : List Edge) (cs : List ℕ) : Type 0 where
  pub some : 0 < length cs
  pub distinct : IsDistinct nat_eq cs
  pub steps : (i : ℕ) → i + 1 < length cs → IsBefore es (slice_index cs i) (slice_index cs (i + 1))
  pub closes : IsBefore es (slice_index cs (length cs - 1)) (slice_index cs 0)

-- there is no cycle
abbrev pub IsAcyclic : List Edge → Type 0
IsAcyclic es = (cs : List ℕ) → ¬ IsCycle es cs

-- a number for each node below n that falls along every edge
pub record IsRanking (es : List Edge) (n : ℕ) (ranks : List ℕ) : Type 0 where
  pub count : length ranks ≡ n
  pub falls : (p q : ℕ) → IsBefore es p q → slice_index ranks q < slice_index ranks p
  pub below : (p : ℕ) → slice_index ranks p ≤ n

-- what stands with a failure: a cycle of the edges; want of memory may come at any time
abbrev pub IsFault : List Edge → SearchFail → Type 0
IsFault es (Cycle cs) = IsCycle es cs
IsFault es NoMemory = Unit {0}
