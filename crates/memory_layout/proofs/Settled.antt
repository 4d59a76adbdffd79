-- Where events go forward in an order of leaves, handlers are counted in full at the depth of the leaves from theirs on.
use Rattle.std.specs.Prelude.{◌≡◌, refl, ℕ, zero, suc, ◌+◌, ◌≤◌, ◌==◌, ◌&&◌, ◌||◌, Bool, true, false, if◌then◌else◌, List, [], ◌∷◌, length, sum_by, All, Option, Some, None}
use Rattle.std.proofs.Common.{subst, arith}
use Rattle.std.proofs.lemmas.Bool.{eqb-true, false≢true}
use Rattle.std.proofs.lemmas.List.Elements.{All-nil, All-cons, All-head, All-tail}
use Rattle.std.proofs.lemmas.List.Sums.{sum_by-cons}
use Rattle.cm_base.specs.declared.place.LeafId.{LeafId}
use Rattle.cm_base.specs.declared.place.EndId.{EndId}
use Rattle.cm_base.specs.Parts.{is_event}
use Rattle.cm_core.specs.declared.flat.Chain.{Chain}
use Rattle.cm_core.specs.declared.flat.Point.{Point}
use Rattle.cm_core.specs.Calls.{handler_at}
use Rattle.cm_core.specs.Forward.{has_leaf}
use Rattle.cm_core.specs.Linked.{Linked, unit_at, leaf_ends, leaf_point, number_among, same_leaf, is_point}
use Rattle.cm_core.specs.Measures.{reached_size, along, chains_size, handled_size}
use Rattle.cm_core.specs.Sizes.{scalars}
use Rattle.memory_layout.specs.Held.{held}
use Rattle.memory_layout.specs.Onward.{IsKnown, LeadsOn, GoForward}
use Rattle.memory_layout.proofs.Alike.{joined, behind}
use Rattle.memory_layout.proofs.Whole.{handler_alike}

both_left : (a b : Bool) → (a && b) ≡ true → a ≡ true
both_left true b h = refl
both_left false b h = absurd (false≢true h)

both_right : (a b : Bool) → (a && b) ≡ true → b ≡ true
both_right true b h = h
both_right false b h = absurd (false≢true h)

-- what a chain from a point comes to counts alike
abbrev pub ReachAlike : Linked → (ℕ → ℕ → ℕ) → (ℕ → ℕ → ℕ) → Point → Chain → Type 0
ReachAlike l f g from chain =
    (is_event chain.kind && is_point chain.from from) ≡ true → held (reached_size l f chain.to.leaf chain.to.end) ≡ held (reached_size l g chain.to.leaf chain.to.end)

along_by : (b : Bool) (s m n : ℕ) → (b ≡ true → held m ≡ held n) → held (if b then s + m else 0) ≡ held (if b then s + n else 0)
along_by true s m n h = behind s m n (h refl)
along_by false s m n h = refl

pub sums_alike : (l : Linked) (f g : ℕ → ℕ → ℕ) (from : Point) (chains : List Chain) → All (ReachAlike l f g from) chains →
    held (sum_by (along l f from) chains) ≡ held (sum_by (along l g from) chains)
sums_alike l f g from [] h = refl
sums_alike l f g from (c ∷ cs) h =
    rw (sum_by-cons (along l f from) c cs, sum_by-cons (along l g from) c cs)
    (joined (along l f from c) (along l g from c) _ _
    (along_by (is_event c.kind && is_point c.from from) (scalars c.shape) _ _ (All-head (ReachAlike l f g from) c cs h))
    (sums_alike l f g from cs (All-tail (ReachAlike l f g from) c cs h)))

-- handlers of these leaves count alike
abbrev pub LeavesAlike : List LeafId → (ℕ → ℕ → ℕ) → (ℕ → ℕ → ℕ) → Type 0
LeavesAlike leaves f g = (j : ℕ) → has_leaf leaves j ≡ true → (e : ℕ) → held (f j e) ≡ held (g j e)

pub reach_alike : (l : Linked) (leaves : List LeafId) (f g : ℕ → ℕ → ℕ) → LeavesAlike leaves f g → (leaf : Option LeafId) (end : EndId) → IsKnown leaves leaf →
    held (reached_size l f leaf end) ≡ held (reached_size l g leaf end)
reach_alike l leaves f g h None end known = refl
reach_alike l leaves f g h (Some leaf) end known = h leaf.0 known (number_among (leaf_ends l leaf.0) end)

-- so do the chains from a leaf that leads to them
pub leaf_alike : (l : Linked) (leaf : LeafId) (later : List LeafId) (f g : ℕ → ℕ → ℕ) → LeavesAlike later f g → (end : ℕ) (chains : List Chain) → All (LeadsOn leaf later) chains →
    All (ReachAlike l f g (leaf_point l leaf.0 end)) chains
leaf_alike l leaf later f g h end [] leads = All-nil (ReachAlike l f g (leaf_point l leaf.0 end))
leaf_alike l leaf later f g h end (c ∷ cs) leads =
    All-cons (ReachAlike l f g (leaf_point l leaf.0 end)) c cs
    (λ both.
    reach_alike l later f g h c.to.leaf c.to.end
    (All-head (LeadsOn leaf later) c cs leads (both_left (is_event c.kind) (is_point c.from (leaf_point l leaf.0 end)) both)
    (both_left (same_leaf c.from.leaf (Some leaf)) (c.from.end.0 == (leaf_point l leaf.0 end).end.0) (both_right (is_event c.kind) (is_point c.from (leaf_point l leaf.0 end)) both))))
    (leaf_alike l leaf later f g h end cs (All-tail (LeadsOn leaf later) c cs leads))

module _ (l : Linked) where
  here : (leaf : LeafId) (later : List LeafId) (d : ℕ) → All (LeadsOn leaf later) l.flat.chains → LeavesAlike later (handled_size l d) (handled_size l (suc d)) →
      (e : ℕ) → held (handled_size l (suc d) leaf.0 e) ≡ held (handled_size l (suc (suc d)) leaf.0 e)
  here leaf later d leads known e =
      handler_alike l.program.structs (unit_at l leaf.0) (λ end. chains_size l (handled_size l d) (leaf_point l leaf.0 end))
      (λ end. chains_size l (handled_size l (suc d)) (leaf_point l leaf.0 end))
      (λ end. sums_alike l (handled_size l d) (handled_size l (suc d)) (leaf_point l leaf.0 end) l.flat.chains
      (leaf_alike l leaf later (handled_size l d) (handled_size l (suc d)) known end l.flat.chains leads))
      (handler_at (unit_at l leaf.0) e)

  by_leaf : (leaf : LeafId) (d j e : ℕ) (b : Bool) → (leaf.0 == j) ≡ b → held (handled_size l (suc d) leaf.0 e) ≡ held (handled_size l (suc (suc d)) leaf.0 e) →
      (later : Bool) → (later ≡ true → held (handled_size l (suc d) j e) ≡ held (handled_size l (suc (suc d)) j e)) → (b || later) ≡ true →
      held (handled_size l (suc d) j e) ≡ held (handled_size l (suc (suc d)) j e)
  by_leaf leaf d j e true at same later others h =
      subst (λ (k : ℕ). held (handled_size l (suc d) k e) ≡ held (handled_size l (suc (suc d)) k e)) (eqb-true leaf.0 j at) same
  by_leaf leaf d j e false at same later others h = others h

  -- one level more changes nothing
  pub settled : (leaves : List LeafId) → GoForward l.flat.chains leaves → (d : ℕ) → length leaves ≤ d → LeavesAlike leaves (handled_size l d) (handled_size l (suc d))
  settled [] go d le j has e = absurd (false≢true has)
  settled (x ∷ xs) go zero le j has e = absurd (omega arith)
  settled (x ∷ xs) go (suc d) le j has e =
      let below : length xs ≤ d = omega arith in
      let more : length xs ≤ suc d = omega arith in
      by_leaf x d j e (x.0 == j) refl (here x xs d go.0 (settled xs go.1 d below) e) (has_leaf xs j) (λ h. settled xs go.1 (suc d) more j h e) has
