use Rattle.std.proofs.Common.{◌≡◌, ℕ, ◌+◌, ◌<◌, ◌-◌, Bool, true, false, List, [], ◌∷◌, ◌++◌, length, get_or, set, take, drop, reverse, ap, ◌∙◌, sym, arith, nat_eq, ⊎_elim, zero, suc, length-drop, drop-cons, add-one}
use Rattle.std.specs.Prelude.{◌==◌, ◌||◌}
use Rattle.std.specs.List.{IsDistinct}
use Rattle.std.proofs.lemmas.List.{get_or-reverse, get_or-drop}
use Rattle.std.proofs.lemmas.List.Folds.{list_any-append}
use Rattle.std.proofs.lemmas.List.Sorted.{IsPermutation-reverse}
use Rattle.std.proofs.lemmas.Map.Keys.{IsDistinct-tail, IsDistinct-IsPermutation}
use Rattle.std.proofs.lemmas.Bool.{cases_eq}
use Rattle.std.proofs.lemmas.Grind.{common_steps}
use Rattle.graph_search.specs.Edges.{member}

-- a node of the path reversed from first on
pub item_at : (xs path : List ℕ) (first i : ℕ) → xs ≡ reverse (drop first path) → i < length path - first → get_or xs i 0 ≡ get_or path (length path - 1 - i) 0
item_at xs path first i e lt =
    let d : length (drop first path) ≡ length path - first = length-drop first path in
    let lt' : i < length (drop first path) = omega (arith, d) in
    let n : first + (length (drop first path) - 1 - i) ≡ length path - 1 - i = omega (arith, d) in
    ap (λ (ys : List ℕ). get_or ys i 0) e ∙ get_or-reverse (drop first path) i 0 lt' ∙ get_or-drop first path _ 0 ∙ ap (λ (k : ℕ). get_or path k 0) n

-- a rest of a list without repeats has none
distinct_drop : (k : ℕ) (xs : List ℕ) → IsDistinct nat_eq xs → IsDistinct nat_eq (drop k xs)
distinct_drop zero xs h = h
distinct_drop (suc k) [] h = h
distinct_drop (suc k) (x ∷ xs) h = distinct_drop k xs (IsDistinct-tail nat_eq x xs h)

equal_flips : (x y : ℕ) → nat_eq x y ≡ nat_eq y x
equal_flips x y = grind (arith, common_steps)

-- the path reversed has no repeats
pub distinct_back : (xs path : List ℕ) (first : ℕ) → xs ≡ reverse (drop first path) → IsDistinct nat_eq path → IsDistinct nat_eq xs
distinct_back xs path first e h = rw e (IsDistinct-IsPermutation nat_eq equal_flips (drop first path) (reverse (drop first path)) (IsPermutation-reverse (drop first path)) (distinct_drop first path h))

-- what stands from first on stands before the end
pub member_in : (at first : ℕ) (path : List ℕ) → member at (drop first path) ≡ true → first < length path
member_in at zero (x ∷ xs) h = omega arith
member_in at zero [] h = cc
member_in at (suc k) [] h = cc
member_in at (suc k) (x ∷ xs) h = let ih = member_in at k xs h in omega (arith, ih)

head_not : (at x : ℕ) (ys : List ℕ) → (x ≡ at → ⊥) → member at (x ∷ ys) ≡ true → member at ys ≡ true
head_not at x ys ne h = grind (arith, common_steps)

-- a search that has not found goes on
pub member_drop : (at first : ℕ) (path : List ℕ) → member at (drop first path) ≡ true → (get_or path first 0 ≡ at → ⊥) → member at (drop (first + 1) path) ≡ true
member_drop at first path h ne =
    let lt : first < length path = member_in at first path h in
    let e : drop first path ≡ get_or path first 0 ∷ drop (suc first) path = drop-cons path first 0 lt in
    let m : member at (get_or path first 0 ∷ drop (suc first) path) ≡ true = ap (member at) (sym e) ∙ h in
    rw add-one (head_not at _ _ ne m)

-- how long the path reversed is
pub back_length : (xs path : List ℕ) (first : ℕ) → xs ≡ reverse (drop first path) → length xs ≡ length path - first
back_length xs path first e = grind (arith, common_steps)

-- what holds of the path reversed
pub steps_back : (bs xs path : List ℕ) (first i : ℕ) → xs ≡ reverse (drop first path) → first < length path
    → ((i : ℕ) → i + 1 < length path → get_or bs (get_or path i 0) 0 ≡ get_or path (i + 1) 0)
    → i + 1 < length xs → get_or bs (get_or xs (i + 1) 0) 0 ≡ get_or xs i 0
steps_back bs xs path first i e in' h lt =
    let d : length xs ≡ length path - first = back_length xs path first e in
    let a = item_at xs path first (i + 1) e (omega (arith, d)) in
    let b = item_at xs path first i e (omega (arith, d)) in
    let s = h (length path - 1 - (i + 1)) (omega (arith, d)) in
    let n : length path - 1 - (i + 1) + 1 ≡ length path - 1 - i = omega (arith, d) in
    ap (λ (x : ℕ). get_or bs x 0) a ∙ s ∙ ap (λ (k : ℕ). get_or path k 0) n ∙ sym b

pub closes_back : (bs xs path : List ℕ) (first at : ℕ) → xs ≡ reverse (drop first path) → first < length path → get_or path first 0 ≡ at
    → get_or bs (get_or path (length path - 1) 0) 0 ≡ at → get_or bs (get_or xs 0 0) 0 ≡ get_or xs (length xs - 1) 0
closes_back bs xs path first at e in' is last =
    let d : length xs ≡ length path - first = back_length xs path first e in
    let a = item_at xs path first 0 e (omega (arith, d)) in
    let b = item_at xs path first (length xs - 1) e (omega (arith, d)) in
    let z : length path - 1 - 0 ≡ length path - 1 = omega arith in
    let n : length path - 1 - (length xs - 1) ≡ first = omega (arith, d) in
    ap (λ (x : ℕ). get_or bs x 0) a ∙ ap (λ (k : ℕ). get_or bs (get_or path k 0) 0) z ∙ last ∙ sym is ∙ sym (ap (λ (k : ℕ). get_or path k 0) n) ∙ sym b

pub blocked_back : (us xs path : List ℕ) (first i : ℕ) → xs ≡ reverse (drop first path) → ((i : ℕ) → i < length path → 0 < get_or us (get_or path i 0) 0) → i < length xs → 0 < get_or us (get_or xs i 0) 0
blocked_back us xs path first i e h lt =
    let d : length xs ≡ length path - first = back_length xs path first e in
    rw (item_at xs path first i e (omega (arith, d))) (h (length path - 1 - i) (omega (arith, d)))

-- one more node of the path
pub steps_more : (bs path ps : List ℕ) (at : ℕ) → ps ≡ path ++ at ∷ []
    → ((i : ℕ) → i + 1 < length path → get_or bs (get_or path i 0) 0 ≡ get_or path (i + 1) 0)
    → (0 < length path → get_or bs (get_or path (length path - 1) 0) 0 ≡ at)
    → (i : ℕ) → i + 1 < length ps → get_or bs (get_or ps i 0) 0 ≡ get_or ps (i + 1) 0
steps_more bs path ps at e h last i lt = ⊎_elim
    (λ (s : i + 1 ≡ length path).
    let pos : 0 < length path = omega arith in
    let j : length path - 1 ≡ i = omega arith in
    let a : get_or ps i 0 ≡ get_or path i 0 = grind (arith, common_steps) in
    let b : get_or ps (i + 1) 0 ≡ at = grind (arith, common_steps) in
    ap (λ (x : ℕ). get_or bs x 0) a ∙ sym (ap (λ (k : ℕ). get_or bs (get_or path k 0) 0) j) ∙ last pos ∙ sym b)
    (λ (ne : i + 1 ≡ length path → ⊥).
    let lt' : i + 1 < length path = grind (arith, common_steps) in
    let a : get_or ps i 0 ≡ get_or path i 0 = grind (arith, common_steps) in
    let b : get_or ps (i + 1) 0 ≡ get_or path (i + 1) 0 = grind (arith, common_steps) in
    ap (λ (x : ℕ). get_or bs x 0) a ∙ h i lt' ∙ sym b)
    (cases_eq (i + 1) (length path))

pub last_more : (bs path ps : List ℕ) (at : ℕ) → ps ≡ path ++ at ∷ [] → get_or bs (get_or ps (length ps - 1) 0) 0 ≡ get_or bs at 0
last_more bs path ps at e = let a : get_or ps (length ps - 1) 0 ≡ at = grind (arith, common_steps) in ap (λ (x : ℕ). get_or bs x 0) a

pub blocked_more : (us path ps : List ℕ) (at : ℕ) → ps ≡ path ++ at ∷ [] → ((i : ℕ) → i < length path → 0 < get_or us (get_or path i 0) 0) → 0 < get_or us at 0 → (i : ℕ) → i < length ps → 0 < get_or us (get_or ps i 0) 0
blocked_more us path ps at e h pos i lt = ⊎_elim
    (λ (s : i ≡ length path). let a : get_or ps i 0 ≡ at = grind (arith, common_steps) in rw a pos)
    (λ (ne : i ≡ length path → ⊥). let a : get_or ps i 0 ≡ get_or path i 0 = grind (arith, common_steps) in rw a (h i (grind (arith, common_steps))))
    (cases_eq i (length path))

-- the flags tell the path, also after one more node
pub seen_more : (seen : List Bool) (path ps : List ℕ) (at q : ℕ) → ps ≡ path ++ at ∷ [] → at < length seen → get_or seen q false ≡ member q path → get_or (set seen at true) q false ≡ member q ps
seen_more seen path ps at q e lt h =
    let m : member q ps ≡ (member q path || ((q == at) || false)) = rw e (list_any-append (nat_eq q) path (at ∷ [])) in
    grind (arith, common_steps, m)

-- the slice from first on
pub sliced : (ys path : List ℕ) (first : ℕ) → ys ≡ path → take (length ys - first) (drop first ys) ≡ drop first path
sliced ys path first e = rw e (grind (arith, common_steps))
