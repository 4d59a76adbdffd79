-- The order of the leaves of a flat graph: docs/LANGUAGE.md, "Graphs".
use Rattle.std.specs.Prelude.{ℕ, true, false, ◌≡◌, ◌<◌, List, length, take, slice_index}
use Rattle.cm_base.specs.declared.place.LeafId.{LeafId}
use Rattle.cm_core.specs.declared.flat.Flat.{Flat}
use Rattle.graph_search.specs.Edges.{member}
use Rattle.graph_order.specs.Before.{IsBefore, numbers}

-- some leaf before q isn't placed
abbrev pub Waits : Flat → List ℕ → ℕ → Type 0
Waits flat placed q = (p : ℕ) × IsBefore flat p q × (member p placed ≡ false)

-- q is the first leaf that isn't placed and whose predecessors are all placed
pub record IsNext (flat : Flat) (placed : List ℕ) (q : ℕ) : Type 0 where
  pub leaf : q < length flat.leaves
  pub unplaced : member q placed ≡ false
  pub ready : (p : ℕ) → IsBefore flat p q → member p placed ≡ true
  pub first : (k : ℕ) → k < q → member k placed ≡ false → Waits flat placed k

-- all leaves, each the next one after those in front of it
pub record IsOrderOf (flat : Flat) (leaves : List ℕ) : Type 0 where
  pub next : (i : ℕ) → i < length leaves → IsNext flat (take i leaves) (slice_index leaves i)
  pub all : (q : ℕ) → q < length flat.leaves → member q leaves ≡ true
  pub count : length leaves ≡ length flat.leaves

abbrev pub IsOrder : Flat → List LeafId → Type 0
IsOrder flat order = IsOrderOf flat (numbers order)
