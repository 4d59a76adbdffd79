-- What holds of each flat graph of a program without a fault.
use Rattle.std.specs.Prelude.{ℕ, ◌<◌, ◌≤◌, List, All, Option, Some, None, length}
use Rattle.cm_base.specs.declared.place.LeafId.{LeafId}
use Rattle.cm_core.specs.declared.flat.Flat.{Flat}
use Rattle.cm_core.specs.declared.flat.Chain.{Chain}
use Rattle.cm_core.specs.declared.flat.Leaf.{Leaf}

-- the leaves of the chains are leaves of the graph
abbrev pub IsLeafBelow : ℕ → Option LeafId → Type 0
IsLeafBelow n None = Unit {0}
IsLeafBelow n (Some leaf) = leaf.0 < n

abbrev pub NamesLeaves : Flat → Type 0
NamesLeaves flat =
    All (λ chain. IsLeafBelow (length flat.leaves) chain.from.leaf × IsLeafBelow (length flat.leaves) chain.to.leaf) flat.chains

-- at most this many leaves, of at most this latency each
abbrev pub IsSmall : Flat → Type 0
IsSmall flat = (length flat.leaves ≤ 4096) × All (λ leaf. leaf.latency ≤ 65536) flat.leaves
