-- What a turn leaves of a leaf that returned, and what the end of a frame leaves of sums.
use Rattle.std.proofs.Common.{◌≡◌, ℕ, zero, suc, ◌-◌, ◌<◌, List, [], ◌∷◌, length, Bool, true, false, refl, sym, ap, ◌∙◌, subst, arith, ℤ}
use Rattle.std.specs.Prelude.{◌==◌, ◌||◌, slice_index_or, slice_set}
use Rattle.std.proofs.lemmas.Bool.{eqb-true, false≢true}
use Rattle.cm_base.specs.declared.place.LeafId.{LeafId}
use Rattle.cm_core.specs.declared.unit.Home.TheVariants as home
use Rattle.cm_core.specs.World.{World, LeafState, no_leaf, leaf_at, with_leaf, with_rest}
use Rattle.cm_core.specs.Acts.{Given, Gives, Short, Act, Done, bind, change}
use Rattle.cm_core.specs.Resume.{On, resume}
use Rattle.cm_core.specs.Linked.{Linked, unit_at}
use Rattle.cm_core.specs.Calls.{enter, hooks}
use Rattle.cm_core.specs.CoreRun.{renew, rest_of, resumed, clear, resumed_again, act_of, zero_sums, clear_all, end_frame}
use Rattle.cm_core.specs.Forward.{has_leaf}
use Rattle.cm_core.specs.Laws.{IsDoneAt}
use Rattle.cm_core.proofs.Deep.{rest_set}

-- ---- a leaf that returned

abbrev IsLeft : ℕ → World → Type 0
IsLeft i w = (leaf_at i w).rest ≡ []

-- another part of the leaf is set
set_left : (i : ℕ) (leaf : LeafState) (w : World) → leaf.rest ≡ (leaf_at i w).rest → IsLeft i w → IsLeft i (with_leaf i leaf w)
set_left i leaf w e left = rest_set w.leaves i i leaf e ∙ left

done_then : (i n : ℕ) (x : Given Done) (go : Act Done) → IsDoneAt i n x → ((w : World) → IsLeft i w → IsDoneAt i n (go w n)) → IsDoneAt i n (bind x (λ d. go))
done_then i n (Gives value w m) go h f = subst (λ k. IsDoneAt i n (go w k)) (sym h.1) (f w h.0)
done_then i n (Short w) go h f = absurd h

emptied : (leaves : List LeafState) (i : ℕ) (leaf : LeafState) → leaf.rest ≡ [] → (slice_index_or (slice_set leaves i leaf) i no_leaf).rest ≡ []
emptied [] i leaf e = refl
emptied (x ∷ leaves) zero leaf e = e
emptied (x ∷ leaves) (suc i) leaf e = emptied leaves i leaf e

resumed_done : (l : Linked) (depth i n : ℕ) (w : World) → IsLeft i w → IsDoneAt i n (resumed l depth i w n)
resumed_done l depth i n w left =
    let v : World = enter l i home.Main w in
    let here : (leaf_at i v).rest ≡ [] = set_left i _ w refl left in
    subst (λ rest. IsDoneAt i n (bind (resume rest (hooks l depth i) On v n) (λ end. change (with_rest i (rest_of end))))) (sym here) (emptied v.leaves i _ refl, refl)

again_done : (l : Linked) (depth i n count : ℕ) (w : World) → IsLeft i w → IsDoneAt i n (resumed_again l depth i count w n)
again_done l depth i n zero w left = (left, refl)
again_done l depth i n (suc count) w left =
    let v : World = clear l i w in
    done_then i n (resumed l depth i v n) (resumed_again l depth i count) (resumed_done l depth i n v (set_left i _ w refl left)) (again_done l depth i n count)

pub stays_done : (l : Linked) (depth i : ℕ) (w : World) (n : ℕ) → (leaf_at i w).rest ≡ [] → IsDoneAt i n (act_of l depth i w n)
stays_done l depth i w n left =
    let v : World = renew l i w in
    done_then i n (resumed l depth i v n) (resumed_again l depth i ((unit_at l i).factor - 1)) (resumed_done l depth i n v (set_left i _ w refl left))
    (again_done l depth i n ((unit_at l i).factor - 1))

-- ---- sums

-- what holds of the old sums, and of those of a leaf that is set, holds of the sums after it
sums_put : (P : ℕ → List (List ℤ) → Type 0) (leaves : List LeafState) (i j : ℕ) (leaf : LeafState) → P i (slice_index_or leaves i no_leaf).sums → (j ≡ i → P i leaf.sums) →
    P i (slice_index_or (slice_set leaves j leaf) i no_leaf).sums
sums_put P [] i j leaf old new = old
sums_put P (x ∷ leaves) zero zero leaf old new = new refl
sums_put P (x ∷ leaves) zero (suc j) leaf old new = old
sums_put P (x ∷ leaves) (suc i) zero leaf old new = old
sums_put P (x ∷ leaves) (suc i) (suc j) leaf old new = sums_put (λ k. P (suc k)) leaves i j leaf old (λ e. new (ap suc e))

sums_set : (leaves : List LeafState) (i : ℕ) (leaf : LeafState) → i < length leaves → (slice_index_or (slice_set leaves i leaf) i no_leaf).sums ≡ leaf.sums
sums_set [] i leaf le = absurd (omega arith)
sums_set (x ∷ leaves) zero leaf le = refl
sums_set (x ∷ leaves) (suc i) leaf le = sums_set leaves i leaf (omega arith)

same_length : (leaves : List LeafState) (i : ℕ) (leaf : LeafState) → length (slice_set leaves i leaf) ≡ length leaves
same_length [] i leaf = refl
same_length (x ∷ leaves) zero leaf = refl
same_length (x ∷ leaves) (suc i) leaf = ap suc (same_length leaves i leaf)

abbrev IsClear : Linked → ℕ → List (List ℤ) → Type 0
IsClear l i sums = sums ≡ zero_sums (unit_at l i)

-- sums that are zero stay so
stays_clear : (l : Linked) (i : ℕ) (order : List LeafId) (w : World) → IsClear l i (leaf_at i w).sums → IsClear l i (leaf_at i (clear_all l order w)).sums
stays_clear l i [] w h = h
stays_clear l i (leaf ∷ leaves) w h =
    stays_clear l i leaves (clear l leaf.0 w) (sums_put (IsClear l) w.leaves i leaf.0 _ h (λ e. subst (λ q. zero_sums (unit_at l leaf.0) ≡ zero_sums (unit_at l q)) e refl))

clear_case : (l : Linked) (i : ℕ) (leaf : LeafId) (leaves : List LeafId) (w : World) (b : Bool) → (leaf.0 == i) ≡ b → (b || has_leaf leaves i) ≡ true → i < length w.leaves →
    (has_leaf leaves i ≡ true → IsClear l i (leaf_at i (clear_all l leaves (clear l leaf.0 w))).sums) → IsClear l i (leaf_at i (clear_all l leaves (clear l leaf.0 w))).sums
clear_case l i leaf leaves w true at h le ih =
    let same : leaf.0 ≡ i = eqb-true leaf.0 i at in
    let there : leaf.0 < length w.leaves = subst (λ q. q < length w.leaves) (sym same) le in
    let here : IsClear l leaf.0 (leaf_at leaf.0 (clear l leaf.0 w)).sums = sums_set w.leaves leaf.0 _ there in
    stays_clear l i leaves (clear l leaf.0 w) (subst (λ q. IsClear l q (leaf_at q (clear l leaf.0 w)).sums) same here)
clear_case l i leaf leaves w false at h le ih = ih h

clears : (l : Linked) (i : ℕ) (order : List LeafId) (w : World) → has_leaf order i ≡ true → i < length w.leaves → IsClear l i (leaf_at i (clear_all l order w)).sums
clears l i [] w h le = absurd (false≢true h)
clears l i (leaf ∷ leaves) w h le =
    clear_case l i leaf leaves w (leaf.0 == i) refl h le
    (λ k. clears l i leaves (clear l leaf.0 w) k (subst (λ n. i < n) (sym (same_length w.leaves leaf.0 _)) le))

pub sums_cleared : (l : Linked) (w : World) (i : ℕ) → has_leaf l.order i ≡ true → i < length w.leaves → (leaf_at i (end_frame l w)).sums ≡ zero_sums (unit_at l i)
sums_cleared l w i h le = clears l i l.order _ h le
