use Rattle.std.proofs.Common.{◌≡◌, ℕ, ◌+◌, ◌<◌, ◌≤◌, Bool, true, false, List, [], ◌∷◌, length, get_or, set, take, refl, ap, ◌∙◌, sym, arith, nat_eq, ⊎_elim, subst, zero, suc}
use Rattle.std.specs.Prelude.{◌==◌, ◌||◌, ◌&&◌, if◌then◌else◌, Some, None, min, sum_by}
use Rattle.std.specs.List.{list_any, cons_option}
use Rattle.std.proofs.lemmas.List.Sums.{sum_by-cons}
use Rattle.std.proofs.lemmas.List.Folds.{list_any_more}
use Rattle.std.proofs.lemmas.Bool.{cases_eq}
use Rattle.std.proofs.lemmas.Grind.{common_steps}
use Rattle.graph_search.specs.Edges.{AreWithin, member, IsBefore}
use Rattle.graph_search.specs.Orders.{IsOrder}
use Rattle.graph_search.specs.Counts.{targets}
use Rattle.graph_search.specs.Paths.{counted, path_count}
use Rattle.graph_search.specs.declared.edges.Edge.{Edge}
use Rattle.graph_search.proofs.NoCycle.{before_within}
use Rattle.graph_search.proofs.Forward.{before_in}

-- one edge of the targets
target_by : (f : Bool) (x q : ℕ) (c : Bool) (ts : List ℕ) → list_any (nat_eq q) ts ≡ c → list_any (nat_eq q) (cons_option (if f then Some x else None) ts) ≡ ((f && (x == q)) || c)
target_by true x q c ts e = grind (arith, common_steps)
target_by false x q c ts e = e

-- the targets of p are the nodes that an edge leads to from p
pub targets_are : (es : List Edge) (p q : ℕ) → member q (targets es p) ≡ list_any (λ (e : Edge). (e.from == p) && (e.to == q)) es
targets_are [] p q = refl
targets_are (e ∷ es) p q = target_by (e.from == p) e.to q _ (targets es p) (targets_are es p q)

-- a sum of two held terms, held
held : (a b c d l : ℕ) → a ≡ min b l → min c l ≡ min d l → min (a + c) l ≡ min (b + d) l
held a b c d l e f = omega (arith, e, f)

member_here : (x : ℕ) (xs : List ℕ) → member x (x ∷ xs) ≡ true
member_here x xs = grind (arith, common_steps)

member_more : (q x : ℕ) (xs : List ℕ) → member q xs ≡ true → member q (x ∷ xs) ≡ true
member_more q x xs h = grind (arith, common_steps)

-- a sum of held terms, held, is the sum, held
pub held_sum_is : (f g : ℕ → ℕ) (l : ℕ) (xs : List ℕ) → ((x : ℕ) → member x xs ≡ true → f x ≡ min (g x) l) → min (sum_by f xs) l ≡ min (sum_by g xs) l
held_sum_is f g l [] h = refl
held_sum_is f g l (x ∷ xs) h =
    let a : sum_by f (x ∷ xs) ≡ f x + sum_by f xs = sum_by-cons f x xs in
    let b : sum_by g (x ∷ xs) ≡ g x + sum_by g xs = sum_by-cons g x xs in
    ap (λ (k : ℕ). min k l) a
    ∙ held (f x) (g x) (sum_by f xs) (sum_by g xs) l (h x (member_here x xs)) (held_sum_is f g l xs (λ y m. h y (member_more y x xs m)))
    ∙ sym (ap (λ (k : ℕ). min k l) b)

-- a node that comes to the count of its paths
count_at : (es : List Edge) (ends : List Bool) (d x v l : ℕ) (cs : List ℕ) (end : Bool)
    → v ≡ min (counted end (sum_by (λ (q : ℕ). get_or cs q 0) (targets es x))) l
    → ((q : ℕ) → IsBefore es x q → get_or cs q 0 ≡ min (path_count es ends d q) l)
    → v ≡ min (counted end (sum_by (path_count es ends d) (targets es x))) l
count_at es ends d x v l cs true is h = is
count_at es ends d x v l cs false is h = is ∙ held_sum_is (λ q. get_or cs q 0) (path_count es ends d) l (targets es x) (λ q m. h q (sym (targets_are es x q) ∙ m))

false_of : (b : Bool) → (b ≡ true → ⊥) → b ≡ false
false_of true h = absurd (h refl)
false_of false h = refl

-- no edge leads from the node at k back to one of the first k + 1
ahead : (es : List Edge) (n : ℕ) (ls : List ℕ) (k q : ℕ) → IsOrder es n ls → k < length ls → IsBefore es (get_or ls k 0) q → member q (take (k + 1) ls) ≡ false
ahead es n ls k q h lt b = false_of _ (λ m.
    let a : member (get_or ls k 0) (take k ls) ≡ true = before_in es n ls h.placed k lt _ q b m in
    let c : member (get_or ls k 0) (take k ls) ≡ false = (h.placed k lt).unplaced in
    let no : true ≡ false = sym a ∙ c in cc)

-- the count of the node at k
here : (es : List Edge) (ends : List Bool) (n : ℕ) (ls cs : List ℕ) (l k s v : ℕ) → AreWithin n es → IsOrder es n ls → k < length ls
    → ((q d : ℕ) → q < n → member q (take (k + 1) ls) ≡ false → s ≤ d → get_or cs q 0 ≡ min (path_count es ends d q) l)
    → v ≡ min (counted (get_or ends (get_or ls k 0) false) (sum_by (λ (q : ℕ). get_or cs q 0) (targets es (get_or ls k 0)))) l
    → (d : ℕ) → s + 1 ≤ d → v ≡ min (path_count es ends d (get_or ls k 0)) l
here es ends n ls cs l k s v w h lt old is zero le = absurd (omega (arith, le))
here es ends n ls cs l k s v w h lt old is (suc d) le =
    count_at es ends d (get_or ls k 0) v l cs _ is
    (λ q b. old q d (before_within es n (get_or ls k 0) q w b) (ahead es n ls k q h lt b) (omega (arith, le)))

-- the counts after one more node from the end of the order
pub counts_more : (es : List Edge) (ends : List Bool) (n : ℕ) (ls cs : List ℕ) (l k s v : ℕ) → AreWithin n es → IsOrder es n ls → length cs ≡ n → k < length ls
    → ((q d : ℕ) → q < n → member q (take (k + 1) ls) ≡ false → s ≤ d → get_or cs q 0 ≡ min (path_count es ends d q) l)
    → v ≡ min (counted (get_or ends (get_or ls k 0) false) (sum_by (λ (q : ℕ). get_or cs q 0) (targets es (get_or ls k 0)))) l
    → (q d : ℕ) → q < n → member q (take k ls) ≡ false → s + 1 ≤ d → get_or (set cs (get_or ls k 0) v) q 0 ≡ min (path_count es ends d q) l
counts_more es ends n ls cs l k s v w h len lt old is q d q_lt out le = ⊎_elim
    (λ (e : get_or ls k 0 ≡ q).
    let x = get_or ls k 0 in
    let g : get_or (set cs x v) q 0 ≡ v = grind (arith, common_steps) in
    g ∙ subst (λ (y : ℕ). v ≡ min (path_count es ends d y) l) e (here es ends n ls cs l k s v w h lt old is d le))
    (λ (ne : get_or ls k 0 ≡ q → ⊥).
    let g : get_or (set cs (get_or ls k 0) v) q 0 ≡ get_or cs q 0 = grind (arith, common_steps) in
    let more : member q (take (k + 1) ls) ≡ (member q (take k ls) || (q == get_or ls k 0)) = list_any_more (nat_eq q) ls k 0 lt in
    g ∙ old q d q_lt (grind (arith, common_steps, more, out)) (omega (arith, le)))
    (cases_eq (get_or ls k 0) q)
