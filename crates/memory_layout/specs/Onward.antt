-- Events that go forward in an order of leaves.
use Rattle.std.specs.Prelude.{◌≡◌, true, List, [], ◌∷◌, All, Option, Some, None}
use Rattle.cm_base.specs.declared.place.LeafId.{LeafId}
use Rattle.cm_base.specs.Parts.{is_event}
use Rattle.cm_core.specs.declared.flat.Chain.{Chain}
use Rattle.cm_core.specs.Linked.{same_leaf}
use Rattle.cm_core.specs.Forward.{has_leaf}

-- the host, or one of these leaves
abbrev pub IsKnown : List LeafId → Option LeafId → Type 0
IsKnown leaves None = Unit {0}
IsKnown leaves (Some leaf) = has_leaf leaves leaf.0 ≡ true

-- an event chain from this leaf leads to the host or to one of these leaves
abbrev pub LeadsOn : LeafId → List LeafId → Chain → Type 0
LeadsOn leaf later chain = is_event chain.kind ≡ true → same_leaf chain.from.leaf (Some leaf) ≡ true → IsKnown later chain.to.leaf

-- event chains from each leaf lead to the host or to leaves behind it
abbrev pub GoForward : List Chain → List LeafId → Type 0
GoForward chains [] = Unit {0}
GoForward chains (leaf ∷ later) = All (LeadsOn leaf later) chains × GoForward chains later
