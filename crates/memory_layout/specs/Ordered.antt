-- An order of the leaves in which events go forward.
use Rattle.std.specs.Prelude.{ℕ, ◌≡◌, ◌<◌, true, List, length, All}
use Rattle.cm_base.specs.Parts.{is_event}
use Rattle.cm_base.specs.declared.place.LeafId.{LeafId}
use Rattle.cm_core.specs.declared.flat.Chain.{Chain}
use Rattle.cm_core.specs.declared.flat.Flat.{Flat}
use Rattle.cm_core.specs.Forward.{has_leaf}
use Rattle.memory_layout.specs.Onward.{GoForward}

-- it has each leaf, and as many as there are
pub record IsOrdered (flat : Flat) (order : List LeafId) : Type 0 where
  pub forward : GoForward flat.chains order
  pub within : All (λ (leaf : LeafId). leaf.0 < length flat.leaves) order
  pub all : (i : ℕ) → i < length flat.leaves → has_leaf order i ≡ true
  pub count : length order ≡ length flat.leaves

-- no event chain has a delay
abbrev pub AreUndelayed : List Chain → Type 0
AreUndelayed chains = All (λ (chain : Chain). is_event chain.kind ≡ true → chain.delay ≡ 0) chains
