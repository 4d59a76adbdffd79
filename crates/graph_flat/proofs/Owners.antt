-- One more leaf of those that may have an endpoint.
use Rattle.std.proofs.Common.{◌≡◌, ℕ, ◌+◌, ◌<◌, ◌≤◌, Bool, true, false, cond, List, [], ◌∷◌, ◌++◌, length, length-append, take, get_or, refl, ap, ◌∙◌, sym, arith, ⊎_elim, Option, Some, None, subst, eqb, ltb, not}
use Rattle.std.specs.Prelude.{option_map, position}
use Rattle.std.specs.List.{position_or_len}
use Rattle.std.proofs.lemmas.List.{take_more}
use Rattle.std.proofs.lemmas.List.Folds.{position_or_len_push}
use Rattle.std.proofs.lemmas.Bool.{cases_eq, ltb-true, ltb-false}
use Rattle.std.proofs.lemmas.Grind.{common_steps}
use Rattle.std.proofs.lemmas.List.Sums.{prefix_len-le-length}
use Rattle.cm_base.specs.declared.place.NodeId.{NodeId}
use Rattle.cm_base.specs.declared.place.LeafId.{LeafId}
use Rattle.graph_flat.specs.Ends.{first_owner, leaf_id}

at_first : (k n : ℕ) (m : ℕ) (lt : Bool) (le : Bool) → ltb k n ≡ lt → ltb m (n + 1) ≡ le → k < n → m ≡ k → (b : Bool) → option_map leaf_id (cond le (Some m) None) ≡ first_owner (option_map leaf_id (cond lt (Some k) None)) b (leaf_id n)
at_first k n m true true p q less e b = ap (λ (j : ℕ). Some (leaf_id j)) e
at_first k n m true false p q less e b = absurd (let f : n + 1 ≤ m = ltb-false m (n + 1) q in omega (arith, f, less, e))
at_first k n m false le p q less e b = absurd (let f : n ≤ k = ltb-false k n p in omega (arith, f, less))

at_last : (k n : ℕ) (m : ℕ) (lt : Bool) (le : Bool) → ltb k n ≡ lt → ltb m (n + 1) ≡ le → k ≡ n → (b : Bool) → m ≡ n + cond b 0 1 → option_map leaf_id (cond le (Some m) None) ≡ first_owner (option_map leaf_id (cond lt (Some k) None)) b (leaf_id n)
at_last k n m true le p q e b f = absurd (let g : k < n = ltb-true k n p in omega (arith, e, g))
at_last k n m false true p q e true f = ap (λ (j : ℕ). Some (leaf_id j)) (let g : m ≡ n = omega (arith, f) in g)
at_last k n m false true p q e false f = absurd (let g : m < n + 1 = ltb-true m (n + 1) q in omega (arith, g, f))
at_last k n m false false p q e true f = absurd (let g : n + 1 ≤ m = ltb-false m (n + 1) q in omega (arith, g, f))
at_last k n m false false p q e false f = refl

position_low : {X : Type 0} (p : X → Bool) (xs : List X) → position_or_len p xs ≤ length xs
position_low p xs = prefix_len-le-length (λ x. not (p x)) xs

pub owner_push : (p : NodeId → Bool) (xs : List NodeId) (y : NodeId) → option_map leaf_id (position p (xs ++ y ∷ [])) ≡ first_owner (option_map leaf_id (position p xs)) (p y) (leaf_id (length xs))
owner_push p xs y =
    let k = position_or_len p xs in
    let n = length xs in
    let m = position_or_len p (xs ++ y ∷ []) in
    let l : length (xs ++ y ∷ []) ≡ n + 1 = length-append xs (y ∷ []) in
    let push : m ≡ cond (eqb k n) (n + cond (p y) 0 1) k = position_or_len_push p xs y in
    let goal_at : ℕ → Type 0 = λ j. option_map leaf_id (cond (ltb m j) (Some m) None) ≡ first_owner (option_map leaf_id (cond (ltb k n) (Some k) None)) (p y) (leaf_id n) in
    subst goal_at (sym l) (⊎_elim
    (λ (e : k ≡ n). at_last k n m (ltb k n) (ltb m (n + 1)) refl refl e (p y) (push ∙ ap (λ (b : Bool). cond b (n + cond (p y) 0 1) k) (let t : eqb k n ≡ true = grind (arith, common_steps) in t)))
    (λ (ne : k ≡ n → ⊥). at_first k n m (ltb k n) (ltb m (n + 1)) refl refl (let low = position_low p xs in grind (arith, low)) (push ∙ ap (λ (b : Bool). cond b (n + cond (p y) 0 1) k) (let t : eqb k n ≡ false = grind (arith, common_steps) in t)) (p y))
    (cases_eq k n))

-- an endpoint after one more leaf
pub owner_more : (p : NodeId → Bool) (xs : List NodeId) (i : ℕ) (d : NodeId) (old new : Option LeafId) → i < length xs → old ≡ option_map leaf_id (position p (take i xs)) → new ≡ first_owner old (p (get_or xs i d)) (leaf_id i)
    → new ≡ option_map leaf_id (position p (take (i + 1) xs))
owner_more p xs i d old new lt a b =
    let n : length (take i xs) ≡ i = grind (arith, common_steps) in
    let t = take_more xs i d lt in
    b ∙ ap (λ (o : Option LeafId). first_owner o (p (get_or xs i d)) (leaf_id i)) a
    ∙ ap (λ (j : ℕ). first_owner (option_map leaf_id (position p (take i xs))) (p (get_or xs i d)) (leaf_id j)) (sym n)
    ∙ sym (owner_push p (take i xs) (get_or xs i d))
    ∙ ap (λ (ys : List NodeId). option_map leaf_id (position p ys)) (sym t)
