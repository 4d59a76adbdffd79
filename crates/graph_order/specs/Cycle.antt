-- Cycles of the leaves of a flat graph, and how a patch is refused by one: docs/LANGUAGE.md, "Graphs".
use Rattle.std.specs.Prelude.{ℕ, true, ◌≡◌, ◌+◌, ◌-◌, ◌<◌, List, [], length, map, nat_eq, slice_index, slice_index_or}
use Rattle.std.specs.List.{IsAmong, IsDistinct}
use Rattle.cm_base.specs.declared.cause.Cause.TheVariants.{Cycle}
use Rattle.cm_base.specs.declared.failure.Fail.{Fail}
use Rattle.cm_base.specs.declared.failure.Fail.TheVariants.{Refused as IsRefused, NoMemory}
use Rattle.cm_base.specs.declared.failure.Refused.{Refused}
use Rattle.cm_base.specs.declared.place.Place.{Place}
use Rattle.cm_core.specs.declared.flat.Flat.{Flat}
use Rattle.cm_core.specs.declared.flat.Chain.{Chain}
use Rattle.graph_order.specs.Before.{IsBefore, leads}

-- distinct leaves, each before the next and the last before the first
pub record IsCycle (flat : Flat) (leaves : List ℕ) : Type 0 where
  pub some : 0 < length leaves
  pub distinct : IsDistinct nat_eq leaves
  pub steps : (i : ℕ) → i + 1 < length leaves → IsBefore flat (slice_index leaves i) (slice_index leaves (i + 1))
  pub closes : IsBefore flat (slice_index leaves (length leaves - 1)) (slice_index leaves 0)

abbrev pub IsAcyclic : Flat → Type 0
IsAcyclic flat = (leaves : List ℕ) → ¬ IsCycle flat leaves

-- the path of a leaf
abbrev pub path_of : Flat → ℕ → List ℕ
path_of flat leaf = slice_index_or (map (λ l. l.path) flat.leaves) leaf []

-- the place of an undelayed chain from leaf p to leaf q
abbrev pub IsPlaceBetween : Flat → ℕ → ℕ → Place → Type 0
IsPlaceBetween flat p q place = (chain : Chain) × IsAmong flat.chains chain × (leads p q chain ≡ true) × (place ≡ chain.place)

-- a refusal by this cycle: the paths of its leaves in order, and the place of a chain from the last to the first
pub record IsRefusalBy (flat : Flat) (leaves : List ℕ) (refused : Refused) : Type 0 where
  pub cycle : IsCycle flat leaves
  pub cause : refused.cause ≡ Cycle
  pub paths : refused.cycle ≡ map (path_of flat) leaves
  pub place : IsPlaceBetween flat (slice_index leaves (length leaves - 1)) (slice_index leaves 0) refused.place

-- what stands with a failure: there is a cycle; want of memory may come at any time
abbrev pub IsFault : Flat → Fail → Type 0
IsFault flat (IsRefused refused) = (leaves : List ℕ) × IsRefusalBy flat leaves refused
IsFault flat NoMemory = Unit {0}
