-- When events lead forward in the order of leaves, and the levels that calls and events have then.
use Rattle.std.specs.Prelude.{ℕ, suc, ◌+◌, ◌-◌, ◌==◌, ◌||◌, ◌≡◌, ◌<◌, Bool, true, false, if◌then◌else◌, List, [], ◌∷◌, length, Option, Some, None}
use Rattle.cm_base.specs.declared.host.Kind.TheVariants.{Event}
use Rattle.cm_base.specs.declared.place.LeafId.{LeafId}
use Rattle.cm_core.specs.declared.flat.Chain.{Chain}
use Rattle.cm_core.specs.declared.flat.Point.{Point}
use Rattle.cm_core.specs.Linked.{Linked, unit_at, leaf_point, host_point, is_point, end_of}
use Rattle.cm_core.specs.Calls.{bodies_of}
use Rattle.cm_core.specs.Levels.{Levels}

-- ---- the order of leaves

-- whether the leaf is one of these
abbrev pub has_leaf : List LeafId → ℕ → Bool
has_leaf [] j = false
has_leaf (leaf ∷ leaves) j = (leaf.0 == j) || has_leaf leaves j

-- whether one leaf comes before another first comes
abbrev pub comes_before : List LeafId → ℕ → ℕ → Bool
comes_before [] i j = false
comes_before (leaf ∷ leaves) i j = if leaf.0 == j then false else (if leaf.0 == i then has_leaf leaves j else comes_before leaves i j)

-- an event that leaves a leaf comes to a later leaf or to the host, and one from the host to any leaf or the host
abbrev pub GoesOn : List LeafId → ℕ → Option LeafId → Type 0
GoesOn order i None = Unit {0}
GoesOn order i (Some leaf) = comes_before order i leaf.0 ≡ true

abbrev pub ComesIn : List LeafId → Option LeafId → Type 0
ComesIn order None = Unit {0}
ComesIn order (Some leaf) = has_leaf order leaf.0 ≡ true

-- the chains from a point end so
abbrev pub EndIn : (Option LeafId → Type 0) → Point → List Chain → Type 0
EndIn to from [] = Unit {0}
EndIn to from (chain ∷ chains) = (is_point chain.from from ≡ true → to chain.to.leaf) × EndIn to from chains

pub record IsForward (l : Linked) : Type 0 where
  pub events : (i e : ℕ) → (end_of (unit_at l i) e).kind ≡ Event → EndIn (GoesOn l.order i) (leaf_point l i e) l.flat.chains
  pub sends : (k : ℕ) → EndIn (ComesIn l.order) (host_point l k) l.flat.chains
  -- the order has each leaf
  pub leaves : (i : ℕ) → i < length l.flat.leaves → has_leaf l.order i ≡ true

-- ---- levels

-- the handlers and functions of the leaves behind one
abbrev pub behind : Linked → List LeafId → ℕ → ℕ
behind l [] j = 0
behind l (leaf ∷ leaves) j = if leaf.0 == j then bodies_of l leaves else behind l leaves j

abbrev pub functions_of : Linked → ℕ → ℕ
functions_of l i = length (unit_at l i).functions

-- in a leaf the last function is lowest, and the handlers are highest
abbrev pub levels_of : Linked → Levels
levels_of l =
    record { function = λ i f. behind l l.order i + (functions_of l i - suc f); handler = λ j e. behind l l.order j + functions_of l j }
