-- The extra delays that make arrivals equal: docs/LANGUAGE.md, "Graphs".
use Rattle.std.specs.Prelude.{ℕ, true, false, ◌≡◌, ◌+◌, ◌-◌, ◌<◌, ◌≤◌, List, Option, Some, None, length, map, slice_index, slice_index_or, if◌then◌else◌}
use Rattle.cm_core.specs.declared.flat.Flat.{Flat}
use Rattle.cm_core.specs.declared.flat.Chain.{Chain}
use Rattle.cm_core.specs.declared.filled.Filled.{Filled}
use Rattle.latency_fill.specs.Walks.{is_timed, leaf_of, latency_of, IsArrival, IsSumOfWalk}

-- when a stream arrives at a leaf, or at the outputs of the host, where it is the latency of the patch
abbrev pub arrival_at : List ℕ → ℕ → Option ℕ → ℕ
arrival_at arrive latency None = latency
arrival_at arrive latency (Some leaf) = slice_index arrive leaf

-- when it leaves a leaf, or the inputs of the host
abbrev pub departure_at : Flat → List ℕ → Option ℕ → ℕ
departure_at flat arrive None = 0
departure_at flat arrive (Some leaf) = slice_index arrive leaf + latency_of flat leaf

abbrev pub arrives : List ℕ → ℕ → Chain → ℕ
arrives arrive latency chain = arrival_at arrive latency (leaf_of chain.to.leaf)

abbrev pub departs : Flat → List ℕ → Chain → ℕ
departs flat arrive chain = departure_at flat arrive (leaf_of chain.from.leaf)

-- what is left between the two along a timed chain, and nothing along another
abbrev pub extra_of : Flat → List ℕ → ℕ → Chain → ℕ
extra_of flat arrive latency chain = if is_timed chain then arrives arrive latency chain - departs flat arrive chain else 0

-- each arrival is the greatest sum over walks, all outputs of the host have one arrival, and each extra delay is what is left
pub record IsFill (flat : Flat) (filled : Filled) : Type 0 where
  pub arrivals : (leaf : ℕ) → leaf < length flat.leaves → IsArrival flat (Some leaf) (slice_index filled.arrive leaf)
  pub latency : IsArrival flat None filled.latency
  pub extra : filled.extra ≡ map (extra_of flat filled.arrive filled.latency) flat.chains
  pub count : length filled.arrive ≡ length flat.leaves

-- along each timed chain the arrival and latency where it begins and its extra delay sum to the arrival where it ends
abbrev pub Fits : Flat → Filled → Type 0
Fits flat filled = (i : ℕ) (d : Chain) → i < length flat.chains → is_timed (slice_index_or flat.chains i d) ≡ true
    → departs flat filled.arrive (slice_index_or flat.chains i d) + slice_index filled.extra i ≡ arrives filled.arrive filled.latency (slice_index_or flat.chains i d)

-- no other chain has an extra delay
abbrev pub OthersHaveNone : Flat → Filled → Type 0
OthersHaveNone flat filled = (i : ℕ) (d : Chain) → i < length flat.chains → is_timed (slice_index_or flat.chains i d) ≡ false
    → slice_index filled.extra i ≡ 0

-- each positive arrival is the sum along a walk
abbrev pub IsAttained : Flat → Filled → Type 0
IsAttained flat filled = (to : Option ℕ) → 0 < arrival_at filled.arrive filled.latency to → IsSumOfWalk flat to (arrival_at filled.arrive filled.latency to)

-- other arrivals that fit with some extra delays, one and the same for all outputs of the host, are nowhere smaller
abbrev pub IsLeast : Flat → Filled → Type 0
IsLeast flat filled = (other : Filled) → Fits flat other → (to : Option ℕ) → arrival_at filled.arrive filled.latency to ≤ arrival_at other.arrive other.latency to
