-- The handlers of all leaves, and what events that come in count for them.
use Rattle.std.specs.Prelude.{◌≡◌, refl, ℕ, zero, suc, ◌<◌, ◌≤◌, ◌==◌, ◌⊎◌, true, List, [], ◌∷◌, length, All, Option, Some, None, slice_get, slice_index_or, get_or, position}
use Rattle.std.proofs.Common.{ap, sym, ◌∙◌, subst, inl, inr}
use Rattle.std.proofs.lemmas.Option.{slice_get_cases}
use Rattle.std.proofs.lemmas.List.Elements.{All-nil, All-cons}
use Rattle.std.specs.Global.{Global}
use Rattle.std.specs.Prelude.{Vec}
use Rattle.cm_base.specs.declared.place.EndId.{EndId}
use Rattle.cm_base.specs.declared.place.LeafId.{LeafId}
use Rattle.cm_core.specs.declared.flat.Chain.{Chain}
use Rattle.cm_core.specs.declared.flat.Leaf.{Leaf}
use Rattle.cm_core.specs.declared.flat.Point.{Point}
use Rattle.cm_core.specs.declared.unit.Handler.{Handler}
use Rattle.cm_core.specs.declared.unit.Unit.{Unit as CoreUnit}
use Rattle.cm_core.specs.Calls.{handler_at}
use Rattle.cm_core.specs.Forward.{has_leaf}
use Rattle.cm_core.specs.Linked.{Linked, no_unit, unit_at, unit_numbered, leaf_ends, leaf_point, number_among}
use Rattle.cm_core.specs.Measures.{measured, handler_size, reached_size, chains_size, handled_size, written_size}
use Rattle.memory_layout.specs.declared.events.Event.{Event}
use Rattle.memory_layout.specs.Events.{AreEvents, AreStarts}
use Rattle.memory_layout.specs.Graphs.{body_among, handled_in, AreHandled}
use Rattle.memory_layout.specs.Held.{held}
use Rattle.memory_layout.proofs.Settled.{ReachAlike, sums_alike}

-- a number behind the leaves has no handlers
past_full : (l : Linked) (d j e : ℕ) → unit_at l j ≡ no_unit → handled_size l d j e ≡ 0
past_full l zero j e past = refl
past_full l (suc d) j e past =
    ap (λ (u : CoreUnit). handler_size (measured l.program.structs u (λ end. chains_size l (handled_size l d) (leaf_point l j end))) (handler_at u e)) past

past_known : (l : Linked) (handlers : List (List ℕ)) (j e : ℕ) → unit_at l j ≡ no_unit → handled_in l handlers j e ≡ 0
past_known l handlers j e past = ap (λ (u : CoreUnit). body_among (slice_index_or handlers j []) (position (λ (h : Handler). h.end == e) u.handlers)) past

-- so all handlers are known where those of the leaves of an order are that has each
pub all_handled : (l : Linked) (order : List LeafId) (handlers : List (List ℕ)) → ((i : ℕ) → i < length l.flat.leaves → has_leaf order i ≡ true) →
    ((j : ℕ) → has_leaf order j ≡ true → (e : ℕ) → held (handled_in l handlers j e) ≡ held (handled_size l (length l.flat.leaves) j e)) → AreHandled l handlers
all_handled l order handlers all known = λ j e. at j e (slice_get_cases l.flat.leaves j).1
  where
    at : (j e : ℕ) →
        ((leaf : Leaf) × (j < length l.flat.leaves) × (slice_get l.flat.leaves j ≡ Some leaf) × (get_or l.flat.leaves j leaf ≡ leaf))
        ⊎ ((length l.flat.leaves ≤ j) × (slice_get l.flat.leaves j ≡ None)) →
        held (handled_in l handlers j e) ≡ held (handled_size l (length l.flat.leaves) j e)
    at j e (inl h) = known j (all j h.1) e
    at j e (inr h) =
        let past : unit_at l j ≡ no_unit = ap (unit_numbered l) h.1 in
        ap held (past_known l handlers j e past) ∙ sym (ap held (past_full l (length l.flat.leaves) j e past))

reached : (l : Linked) (f g : ℕ → ℕ → ℕ) → ((j e : ℕ) → held (f j e) ≡ held (g j e)) → (leaf : Option LeafId) (end : EndId) →
    held (reached_size l f leaf end) ≡ held (reached_size l g leaf end)
reached l f g alike None end = refl
reached l f g alike (Some leaf) end = alike leaf.0 (number_among (leaf_ends l leaf.0) end)

reach_all : (l : Linked) (f g : ℕ → ℕ → ℕ) → ((j e : ℕ) → held (f j e) ≡ held (g j e)) → (from : Point) (chains : List Chain) → All (ReachAlike l f g from) chains
reach_all l f g alike from [] = All-nil (ReachAlike l f g from)
reach_all l f g alike from (c ∷ cs) = All-cons (ReachAlike l f g from) c cs (λ both. reached l f g alike c.to.leaf c.to.end) (reach_all l f g alike from cs)

-- what a write, or an event that comes in, counts by all handlers
pub sent_is : (l : Linked) (handlers : List (List ℕ)) → AreHandled l handlers → (from : Point) → held (chains_size l (handled_in l handlers) from) ≡ held (written_size l from)
sent_is l handlers known from =
    sums_alike l (handled_in l handlers) (handled_size l (length l.flat.leaves)) from l.flat.chains
    (reach_all l (handled_in l handlers) (handled_size l (length l.flat.leaves)) known from l.flat.chains)

-- lists of events, one for each endpoint of the program
pub starts_are : (chains : List Chain) (count : ℕ) (lists : List (Vec Event Global)) → length lists ≡ count → AreEvents chains count lists →
    All (λ (chain : Chain). chain.from.end.0 < count) chains → AreStarts chains lists
starts_are chains count lists long events within =
    record {
      events = subst (λ (n : ℕ). AreEvents chains n lists) (sym long) events;
      within = subst (λ (n : ℕ). All (λ (chain : Chain). chain.from.end.0 < n) chains) (sym long) within;
    }
