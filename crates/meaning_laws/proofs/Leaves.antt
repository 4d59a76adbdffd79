-- What a turn leaves of a leaf that returned, and what the end of a frame leaves of sums.
use Rattle.std.proofs.Common.{◌≡◌, ℕ, zero, suc, ◌-◌, ◌<◌, List, [], ◌∷◌, length, Bool, true, false, refl, sym, ap, ◌∙◌, subst, arith, ℤ}
use Rattle.std.specs.Prelude.{◌==◌, ◌||◌, slice_index_or, slice_set}
use Rattle.std.proofs.lemmas.Bool.{eqb-true, false≢true}
use Rattle.cm_base.specs.Parts.{Inputs, Frame}
use Rattle.cm_base.specs.Players.{Goes}
use Rattle.cm_meaning.specs.World.{World, LeafState, no_leaf, leaf_at, with_leaf, with_rest}
use Rattle.cm_meaning.specs.Acts.{Given, Gives, Short, Act, Done, bind, change}
use Rattle.cm_meaning.specs.Resume.{On, resume}
use Rattle.cm_meaning.specs.Linked.{Linked, ends_at}
use Rattle.cm_meaning.specs.Turns.{is_placed}
use Rattle.cm_meaning.specs.Calls.{hooks}
use Rattle.cm_meaning.specs.PatchRun.{renew, rest_of, resumed, zero_ends, clear, resumed_again, factor_at, act_of, clear_all, end_frame, left_of, perform}
use Rattle.meaning_laws.specs.Laws.{IsDoneAt}
use Rattle.meaning_laws.proofs.Steady.{rest_set}

-- ---- a leaf that returned

abbrev IsLeft : ℕ → World → Type 0
IsLeft i w = (leaf_at i w).rest ≡ []

-- another part of the leaf is set
set_left : (i : ℕ) (leaf : LeafState) (w : World) → leaf.rest ≡ (leaf_at i w).rest → IsLeft i w → IsLeft i (with_leaf i leaf w)
set_left i leaf w e left = rest_set w.leaves i i leaf e ∙ left

done_then : (i n : ℕ) (x : Given Done) (go : Act Done) → IsDoneAt i n x → ((w : World) → IsLeft i w → IsDoneAt i n (go w n)) → IsDoneAt i n (bind x (λ d. go))
done_then i n (Gives value w m) go h f = subst (λ k. IsDoneAt i n (go w k)) (sym h.1) (f w h.0)
done_then i n (Short w) go h f = absurd h

emptied : (leaves : List LeafState) (i : ℕ) (leaf : LeafState) → leaf.rest ≡ [] → (slice_index_or (slice_set leaves i leaf) i no_leaf).rest ≡ []
emptied [] i leaf e = refl
emptied (x ∷ leaves) zero leaf e = e
emptied (x ∷ leaves) (suc i) leaf e = emptied leaves i leaf e

resumed_done : (l : Linked) (depth i n : ℕ) (w : World) → IsLeft i w → IsDoneAt i n (resumed l depth i w n)
resumed_done l depth i n w left =
    subst (λ rest. IsDoneAt i n (bind (resume rest (hooks l depth i) On w n) (λ end. change (with_rest i (rest_of end))))) (sym left) (emptied w.leaves i _ refl, refl)

again_done : (l : Linked) (depth i n count : ℕ) (w : World) → IsLeft i w → IsDoneAt i n (resumed_again l depth i count w n)
again_done l depth i n zero w left = (left, refl)
again_done l depth i n (suc count) w left =
    let v : World = clear l i w in
    done_then i n (resumed l depth i v n) (resumed_again l depth i count) (resumed_done l depth i n v (set_left i _ w refl left)) (again_done l depth i n count)

pub stays_done : (l : Linked) (depth i : ℕ) (w : World) (n : ℕ) → (leaf_at i w).rest ≡ [] → IsDoneAt i n (act_of l depth i w n)
stays_done l depth i w n left =
    let v : World = renew l i w in
    done_then i n (resumed l depth i v n) (resumed_again l depth i (factor_at l i - 1)) (resumed_done l depth i n v (set_left i _ w refl left))
    (again_done l depth i n (factor_at l i - 1))

-- ---- sums

-- what holds of the old sums, and of those of a leaf that is set, holds of the sums after it
sums_put : (P : ℕ → List (List ℤ) → Type 0) (leaves : List LeafState) (i j : ℕ) (leaf : LeafState) → P i (slice_index_or leaves i no_leaf).sums → (j ≡ i → P i leaf.sums) →
    P i (slice_index_or (slice_set leaves j leaf) i no_leaf).sums
sums_put P [] i j leaf old new = old
sums_put P (x ∷ leaves) zero zero leaf old new = new refl
sums_put P (x ∷ leaves) zero (suc j) leaf old new = old
sums_put P (x ∷ leaves) (suc i) zero leaf old new = old
sums_put P (x ∷ leaves) (suc i) (suc j) leaf old new = sums_put (λ k. P (suc k)) leaves i j leaf old (λ e. new (ap suc e))

sums_set : (leaves : List LeafState) (i : ℕ) (leaf : LeafState) → i < length leaves → (slice_index_or (slice_set leaves i leaf) i no_leaf).sums ≡ leaf.sums
sums_set [] i leaf le = absurd (omega arith)
sums_set (x ∷ leaves) zero leaf le = refl
sums_set (x ∷ leaves) (suc i) leaf le = sums_set leaves i leaf (omega arith)

same_length : (leaves : List LeafState) (i : ℕ) (leaf : LeafState) → length (slice_set leaves i leaf) ≡ length leaves
same_length [] i leaf = refl
same_length (x ∷ leaves) zero leaf = refl
same_length (x ∷ leaves) (suc i) leaf = ap suc (same_length leaves i leaf)

cleared_length : (l : Linked) (order : List ℕ) (w : World) → length (clear_all l order w).leaves ≡ length w.leaves
cleared_length l [] w = refl
cleared_length l (j ∷ order) w = cleared_length l order (clear l j w) ∙ same_length w.leaves j _

abbrev IsClear : Linked → ℕ → List (List ℤ) → Type 0
IsClear l i sums = sums ≡ zero_ends (ends_at l i)

-- sums that are zero stay so
stays_clear : (l : Linked) (i : ℕ) (order : List ℕ) (w : World) → IsClear l i (leaf_at i w).sums → IsClear l i (leaf_at i (clear_all l order w)).sums
stays_clear l i [] w h = h
stays_clear l i (j ∷ order) w h =
    stays_clear l i order (clear l j w) (sums_put (IsClear l) w.leaves i j _ h (λ e. subst (λ q. zero_ends (ends_at l j) ≡ zero_ends (ends_at l q)) e refl))

clear_case : (l : Linked) (i j : ℕ) (order : List ℕ) (w : World) (b : Bool) → (j == i) ≡ b → (b || is_placed order i) ≡ true → i < length w.leaves →
    (is_placed order i ≡ true → IsClear l i (leaf_at i (clear_all l order (clear l j w))).sums) → IsClear l i (leaf_at i (clear_all l order (clear l j w))).sums
clear_case l i j order w true at h le ih =
    let same : j ≡ i = eqb-true j i at in
    let there : j < length w.leaves = subst (λ q. q < length w.leaves) (sym same) le in
    let here : IsClear l j (leaf_at j (clear l j w)).sums = sums_set w.leaves j _ there in
    stays_clear l i order (clear l j w) (subst (λ q. IsClear l q (leaf_at q (clear l j w)).sums) same here)
clear_case l i j order w false at h le ih = ih h

clears : (l : Linked) (i : ℕ) (order : List ℕ) (w : World) → is_placed order i ≡ true → i < length w.leaves → IsClear l i (leaf_at i (clear_all l order w)).sums
clears l i [] w h le = absurd (false≢true h)
clears l i (j ∷ order) w h le =
    clear_case l i j order w (j == i) refl h le
    (λ k. clears l i order (clear l j w) k (subst (λ n. i < n) (sym (same_length w.leaves j _)) le))

-- the world after a frame is one that was ended
after_frame : (l : Linked) (i : ℕ) (x : Given Done) (v : World) → left_of (end_frame l) x ≡ Goes v → is_placed l.order i ≡ true → i < length v.leaves → IsClear l i (leaf_at i v).sums
after_frame l i (Gives value u m) v e h le = subst (λ w. i < length w.leaves → IsClear l i (leaf_at i w).sums) (world_same (end_frame l u) v e) (at_end u) le where
  world_same : (a b : World) → Goes a ≡ Goes b → a ≡ b
  world_same a b same = cc

  at_end : (u : World) → i < length (end_frame l u).leaves → IsClear l i (leaf_at i (end_frame l u)).sums
  at_end u less = clears l i l.order _ h (subst (λ n. i < n) (cleared_length l l.order _) less)
after_frame l i (Short u) v e h le = absurd cc

pub sums_cleared : (l : Linked) (depth n frame : ℕ) (inputs : Inputs) (w v : World) (i : ℕ) → perform l depth n (Frame frame inputs) w ≡ Goes v →
    is_placed l.order i ≡ true → i < length v.leaves → (leaf_at i v).sums ≡ zero_ends (ends_at l i)
sums_cleared l depth n frame inputs w v i e h le = after_frame l i _ v e h le
