-- An order in which each leaf is the next one leads events forward.
use Rattle.std.specs.Prelude.{◌≡◌, refl, ℕ, ◌<◌, ◌==◌, ◌&&◌, ◌||◌, Bool, true, false, nat_eq, List, [], ◌∷◌, ◌++◌, length, take, get_or, All, Option, Some, None, slice_index}
use Rattle.std.proofs.Common.{ap, sym, ◌∙◌, subst, arith, append_assoc}
use Rattle.std.proofs.lemmas.Bool.{eqb-true, eq-eqb, false≢true}
use Rattle.std.proofs.Math.Seq.{get_or-append_seam, take-append_seam}
use Rattle.std.proofs.lemmas.List.{map-append, get_or-map, length-append, length-map}
use Rattle.std.proofs.lemmas.List.Folds.{list_any-append, list_any_at}
use Rattle.cm_base.specs.Parts.{is_event}
use Rattle.cm_base.specs.declared.place.LeafId.{LeafId}
use Rattle.cm_core.specs.declared.flat.Chain.{Chain}
use Rattle.cm_core.specs.declared.flat.Flat.{Flat}
use Rattle.cm_core.specs.Flats.{IsLeafBelow, NamesLeaves}
use Rattle.cm_core.specs.Forward.{has_leaf}
use Rattle.cm_core.specs.Linked.{same_leaf}
use Rattle.graph_search.specs.Edges.{member}
use Rattle.graph_order.specs.Before.{is_of, leads, IsBefore, numbers}
use Rattle.graph_order.specs.Order.{IsNext, IsOrderOf, IsOrder}
use Rattle.memory_layout.specs.Onward.{IsKnown, LeadsOn, GoForward}
use Rattle.memory_layout.specs.Ordered.{IsOrdered, AreUndelayed}

both : (a b : Bool) → a ≡ true → b ≡ true → (a && b) ≡ true
both true b h g = g
both false b h g = absurd (false≢true h)

left : (a b : Bool) → a ≡ true → (a || b) ≡ true
left true b h = refl
left false b h = absurd (false≢true h)

right : (a b : Bool) → b ≡ true → (a || b) ≡ true
right true b h = refl
right false b h = h

-- a number of a list splits it
split : (q : ℕ) (xs : List ℕ) → member q xs ≡ true → (front : List ℕ) × (back : List ℕ) × (xs ≡ front ++ q ∷ back)
split q [] h = absurd (false≢true h)
split q (x ∷ xs) h = at (nat_eq q x) refl (λ (there : member q xs ≡ true). split q xs there) h
  where
    at : (b : Bool) → nat_eq q x ≡ b → (member q xs ≡ true → (front : List ℕ) × (back : List ℕ) × (xs ≡ front ++ q ∷ back)) → (b || member q xs) ≡ true →
        (front : List ℕ) × (back : List ℕ) × (x ∷ xs ≡ front ++ q ∷ back)
    at true is later h = ([], xs, ap (λ (n : ℕ). n ∷ xs) (sym (eqb-true q x is)))
    at false is later h = let s = later h in (x ∷ s.0, s.1, ap (λ (l : List ℕ). x ∷ l) s.2)

module _ (flat : Flat) (ns : List ℕ) (order : IsOrderOf flat ns) where
  next_at : (xs : List ℕ) (y : ℕ) (zs : List ℕ) → ns ≡ xs ++ y ∷ zs → IsNext flat xs y
  next_at xs y zs is =
      let inside : length xs < length ns = subst (λ (l : List ℕ). length xs < length l) (sym is) (simp length-append (omega arith)) in
      let front : take (length xs) ns ≡ xs = ap (take (length xs)) is ∙ take-append_seam xs (y ∷ zs) in
      let here : slice_index ns (length xs) ≡ y = ap (λ (l : List ℕ). slice_index l (length xs)) is ∙ get_or-append_seam xs y zs 0 in
      subst (IsNext flat xs) here (subst (λ (l : List ℕ). IsNext flat l (slice_index ns (length xs))) front (order.next (length xs) inside))

  -- what a leaf is before stands behind it
  ahead : (xs : List ℕ) (y : ℕ) (zs : List ℕ) → ns ≡ xs ++ y ∷ zs → (q : ℕ) → q < length flat.leaves → IsBefore flat y q → member q zs ≡ true
  ahead xs y zs is q below before = at (member q zs) refl
    where
      among : (member q xs || (nat_eq q y || member q zs)) ≡ true
      among = sym (list_any-append (nat_eq q) xs (y ∷ zs)) ∙ sym (ap (member q) is) ∙ order.all q below

      unplaced : member y xs ≡ true → ⊥
      unplaced h = false≢true (sym (next_at xs y zs is).unplaced ∙ h)

      before_here : member q xs ≡ true → ⊥
      before_here h =
          let s = split q xs h in
          let whole : ns ≡ s.0 ++ q ∷ (s.1 ++ y ∷ zs) = is ∙ ap (λ (l : List ℕ). l ++ y ∷ zs) s.2 ∙ append_assoc s.0 (q ∷ s.1) (y ∷ zs) in
          unplaced (ap (member y) s.2 ∙ list_any-append (nat_eq y) s.0 (q ∷ s.1) ∙ left (member y s.0) (member y (q ∷ s.1)) ((next_at s.0 q (s.1 ++ y ∷ zs) whole).ready y before))

      not_here : nat_eq q y ≡ true → ⊥
      not_here h = unplaced ((next_at xs y zs is).ready y (subst (IsBefore flat y) (eqb-true q y h) before))

      one_of : (a b c : Bool) → (a ≡ true → ⊥) → (b ≡ true → ⊥) → (a || (b || c)) ≡ true → c ≡ true
      one_of true b c f g h = absurd (f refl)
      one_of false true c f g h = absurd (g refl)
      one_of false false c f g h = h

      at : (b : Bool) → member q zs ≡ b → member q zs ≡ true
      at b same = one_of (member q xs) (nat_eq q y) (member q zs) before_here not_here among

has_member : (leaves : List LeafId) (q : ℕ) → member q (numbers leaves) ≡ true → has_leaf leaves q ≡ true
has_member [] q h = h
has_member (x ∷ xs) q h = at (nat_eq q x.0) refl (λ (there : member q (numbers xs) ≡ true). has_member xs q there) h
  where
    at : (b : Bool) → nat_eq q x.0 ≡ b → (member q (numbers xs) ≡ true → has_leaf xs q ≡ true) → (b || member q (numbers xs)) ≡ true → ((x.0 == q) || has_leaf xs q) ≡ true
    at true is later h = left (x.0 == q) (has_leaf xs q) (eq-eqb x.0 q (sym (eqb-true q x.0 is)))
    at false is later h = right (x.0 == q) (has_leaf xs q) (later h)

same_is : (from : Option LeafId) (leaf : LeafId) → same_leaf from (Some leaf) ≡ true → is_of leaf.0 from ≡ true
same_is None leaf h = h
same_is (Some m) leaf h = h

module _ (flat : Flat) (order : List LeafId) (named : NamesLeaves flat) (undelayed : AreUndelayed flat.chains) (is : IsOrder flat order) where
  leads_on : (done : List LeafId) (leaf : LeafId) (later : List LeafId) → order ≡ done ++ leaf ∷ later → All (LeadsOn leaf later) flat.chains
  leads_on done leaf later at = λ k d below event from.
      known k d below event from (get_or flat.chains k d).to.leaf refl (named k d below).1
    where
      whole : numbers order ≡ numbers done ++ leaf.0 ∷ numbers later
      whole = ap numbers at ∙ map-append (λ (id : LeafId). id.0) done (leaf ∷ later)

      known : (k : ℕ) (d : Chain) → k < length flat.chains → is_event (get_or flat.chains k d).kind ≡ true → same_leaf (get_or flat.chains k d).from.leaf (Some leaf) ≡ true →
          (to : Option LeafId) → (get_or flat.chains k d).to.leaf ≡ to → IsLeafBelow (length flat.leaves) to → IsKnown later to
      known k d below event from None to low = tt
      known k d below event from (Some q) to low =
          let now : ((get_or flat.chains k d).delay == 0) ≡ true = eq-eqb (get_or flat.chains k d).delay 0 (undelayed k d below event) in
          let there : is_of q.0 (get_or flat.chains k d).to.leaf ≡ true = ap (is_of q.0) to ∙ eq-eqb q.0 q.0 refl in
          let one : leads leaf.0 q.0 (get_or flat.chains k d) ≡ true =
          both ((get_or flat.chains k d).delay == 0) (is_of leaf.0 (get_or flat.chains k d).from.leaf && is_of q.0 (get_or flat.chains k d).to.leaf) now
          (both (is_of leaf.0 (get_or flat.chains k d).from.leaf) (is_of q.0 (get_or flat.chains k d).to.leaf) (same_is (get_or flat.chains k d).from.leaf leaf from) there) in
          has_member later q.0 (ahead flat (numbers order) is (numbers done) leaf.0 (numbers later) whole q.0 low (list_any_at (leads leaf.0 q.0) flat.chains k d below one))

  go_forward : (done leaves : List LeafId) → order ≡ done ++ leaves → GoForward flat.chains leaves
  go_forward done [] at = tt
  go_forward done (leaf ∷ later) at = (leads_on done leaf later at, go_forward (done ++ leaf ∷ []) later (at ∙ sym (append_assoc done (leaf ∷ []) later)))

  within : All (λ (leaf : LeafId). leaf.0 < length flat.leaves) order
  within = λ k d below.
      let inside : k < length (numbers order) = simp length-map (below) in
      subst (λ (n : ℕ). n < length flat.leaves) (get_or-map (λ (id : LeafId). id.0) order k d 0 below) (is.next k inside).leaf

  pub ordered_by : IsOrdered flat order
  ordered_by = record {
    forward = go_forward [] order refl;
    within = within;
    all = λ i below. has_member order i (is.all i below);
    count = sym (length-map order (λ (id : LeafId). id.0)) ∙ is.count;
  }

pub ordered : (flat : Flat) (order : List LeafId) → NamesLeaves flat → AreUndelayed flat.chains → IsOrder flat order → IsOrdered flat order
ordered flat order named undelayed is = ordered_by flat order named undelayed is
