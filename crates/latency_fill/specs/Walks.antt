-- When what leaves a leaf arrives: docs/LANGUAGE.md, "Graphs".
use Rattle.std.specs.Prelude.{ℕ, Bool, true, false, ◌≡◌, ◌≤◌, ◌==◌, ◌&&◌, List, [], ◌∷◌, Option, Some, None, map, slice_index, sum_by}
use Rattle.std.specs.List.{list_any}
use Rattle.cm_base.specs.Parts.{is_stream}
use Rattle.cm_base.specs.declared.place.LeafId.{LeafId}
use Rattle.cm_core.specs.declared.flat.Flat.{Flat}
use Rattle.cm_core.specs.declared.flat.Chain.{Chain}
use Rattle.cm_core.specs.declared.flat.Leaf.{Leaf}

-- latencies are made equal along undelayed chains of streams
abbrev pub is_timed : Chain → Bool
is_timed chain = is_stream chain.kind && (chain.delay == 0)

-- the number of a point's leaf; nothing at the host
abbrev pub leaf_of : Option LeafId → Option ℕ
leaf_of None = None
leaf_of (Some id) = Some id.0

abbrev pub latency_in : List Leaf → ℕ → ℕ
latency_in leaves leaf = slice_index (map (λ l. l.latency) leaves) leaf

abbrev pub latency_of : Flat → ℕ → ℕ
latency_of flat leaf = latency_in flat.leaves leaf

abbrev pub same_leaf : Option ℕ → Option ℕ → Bool
same_leaf None None = true
same_leaf (Some p) (Some q) = p == q
same_leaf _ _ = false

-- whether the chain leads from leaf p to a leaf, or to the outputs of the host where none is given
abbrev pub feeds : ℕ → Option ℕ → Chain → Bool
feeds p to chain = is_timed chain && (same_leaf (leaf_of chain.from.leaf) (Some p) && same_leaf (leaf_of chain.to.leaf) to)

abbrev pub Feeds : Flat → ℕ → Option ℕ → Type 0
Feeds flat p to = list_any (feeds p to) flat.chains ≡ true

-- a walk that ends before a leaf, or before the outputs of the host, listed from its end
abbrev pub EndsBefore : Flat → List ℕ → Option ℕ → Type 0
EndsBefore flat [] to = Unit {0}
EndsBefore flat (p ∷ ps) to = Feeds flat p to × EndsBefore flat ps (Some p)

-- some walk that ends there has latencies that sum to this
abbrev pub IsSumOfWalk : Flat → Option ℕ → ℕ → Type 0
IsSumOfWalk flat to sum = (walk : List ℕ) × EndsBefore flat walk to × (sum_by (latency_of flat) walk ≡ sum)

-- the greatest sum of latencies over the walks that end there; the walk without leaves has sum 0
pub record IsArrival (flat : Flat) (to : Option ℕ) (sum : ℕ) : Type 0 where
  pub attained : IsSumOfWalk flat to sum
  pub greatest : (walk : List ℕ) → EndsBefore flat walk to → sum_by (latency_of flat) walk ≤ sum
