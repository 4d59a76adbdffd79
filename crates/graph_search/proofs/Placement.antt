use Rattle.std.proofs.Common.{◌≡◌, ℕ, ◌+◌, ◌<◌, ◌≤◌, ◌-◌, Bool, true, false, cond, not, List, [], ◌∷◌, ◌++◌, length, get_or, take, refl, ap, ◌∙◌, sym, arith, nat_eq, nat_lt, ⊎_elim, subst, All}
use Rattle.std.specs.Prelude.{◌==◌, ◌&&◌, ◌||◌, if◌then◌else◌, Some, None}
use Rattle.std.specs.List.{IsDistinct, cons_option}
use Rattle.std.proofs.lemmas.List.Sums.{sum_by-cons}
use Rattle.std.proofs.lemmas.List.Folds.{list_any-append}
use Rattle.std.proofs.lemmas.Bool.{cases_eq}
use Rattle.std.proofs.lemmas.List.Elements.{All-cons, All-nil, All-head, All-tail}
use Rattle.std.proofs.lemmas.Grind.{common_steps}
use Rattle.std.specs.Ordering.{is_gt, is_eq, nat_cmp}
use Rattle.std.specs.Cmp.{IsEquivalence}
use Rattle.std.proofs.lemmas.Map.Keys.{IsDistinct-push}
use Rattle.std.proofs.lemmas.Map.Steps.{length-le_from_distinct_below, le-length_from_below}
use Rattle.graph_search.specs.Orders.{unmet_of, IsPlaced, IsNext, IsOrder}
use Rattle.graph_search.specs.Counts.{targets, count_of}
use Rattle.graph_search.specs.Edges.{AreWithin, member}
use Rattle.graph_search.specs.declared.edges.Edge.{Edge}

-- one edge of the counts of unmet_push
element : (t m f : Bool) (a b c : ℕ) → (f ≡ true → m ≡ false) → a ≡ b + c
    → cond (t && not m) 1 0 + a ≡ (cond (t && not (m || (f || false))) 1 0 + b) + cond f (cond t 1 0 + c) c
element true true true a b c h e = let no : true ≡ false = h refl in cc
element true true false a b c h e = omega arith
element true false true a b c h e = omega arith
element true false false a b c h e = omega arith
element false true true a b c h e = omega arith
element false true false a b c h e = omega arith
element false false true a b c h e = omega arith
element false false false a b c h e = omega arith

-- one edge of the targets
targets_by : (f : Bool) (x q : ℕ) (ts : List ℕ) → count_of q (cons_option (if f then Some x else None) ts) ≡ cond f (cond (x == q) 1 0 + count_of q ts) (count_of q ts)
targets_by true x q ts = sum_by-cons _ x ts
targets_by false x q ts = refl

-- a number that equals one outside the list is outside
member_same : (a p : ℕ) (ps : List ℕ) → member p ps ≡ false → nat_eq a p ≡ true → member a ps ≡ false
member_same a p ps h e = grind (arith, common_steps)

-- what the counts lose when p is placed
pub unmet_push : (es : List Edge) (ps : List ℕ) (p q : ℕ) → member p ps ≡ false → unmet_of es ps q ≡ unmet_of es (ps ++ p ∷ []) q + count_of q (targets es p)
unmet_push [] ps p q h = refl
unmet_push (e ∷ es) ps p q h =
    let m' : member e.from (ps ++ p ∷ []) ≡ (member e.from ps || ((e.from == p) || false)) = list_any-append (nat_eq e.from) ps (p ∷ []) in
    sum_by-cons _ e es
    ∙ element (e.to == q) (member e.from ps) (e.from == p) _ _ _ (member_same e.from p ps h) (unmet_push es ps p q h)
    ∙ sym (ap (λ (b : Bool). (cond ((e.to == q) && not b) 1 0 + unmet_of es (ps ++ p ∷ []) q) + cond (e.from == p) (cond (e.to == q) 1 0 + count_of q (targets es p)) (count_of q (targets es p))) m')
    ∙ sym (ap (λ (k : ℕ). k + cond (e.from == p) (cond (e.to == q) 1 0 + count_of q (targets es p)) (count_of q (targets es p))) (sum_by-cons (λ (e : Edge). cond ((e.to == q) && not (member e.from (ps ++ p ∷ []))) 1 0) e es))
    ∙ sym (ap (λ (k : ℕ). unmet_of (e ∷ es) (ps ++ p ∷ []) q + k) (targets_by (e.from == p) e.to q (targets es p)))

-- IsNext at equal lists and nodes
next_same : (es : List Edge) (n : ℕ) (ls ms : List ℕ) (p q : ℕ) → ls ≡ ms → p ≡ q → IsNext es n ms q → IsNext es n ls p
next_same es n ls ms p q e f h = rw (e, f) h

-- one more node placed
pub placed_push : (es : List Edge) (n : ℕ) (ls : List ℕ) (p : ℕ) → IsPlaced es n ls → IsNext es n ls p → IsPlaced es n (ls ++ p ∷ [])
placed_push es n ls p h k i lt = ⊎_elim
    (λ (e : i ≡ length ls). next_same es n _ ls _ p (grind (arith, common_steps)) (grind (arith, common_steps)) k)
    (λ (ne : i ≡ length ls → ⊥).
    let lt' : i < length ls = grind (arith, common_steps) in
    next_same es n _ (take i ls) _ (get_or ls i 0) (grind (arith, common_steps)) (grind (arith, common_steps)) (h i lt'))
    (cases_eq i (length ls))

targets_within_by : (f : Bool) (x n : ℕ) (ts : List ℕ) → x < n → All (λ q. q < n) ts → All (λ q. q < n) (cons_option (if f then Some x else None) ts)
targets_within_by true x n ts h k = All-cons (λ q. q < n) x ts h k
targets_within_by false x n ts h k = k

-- edges lead to nodes below n
pub targets_within : (es : List Edge) (n p : ℕ) → AreWithin n es → All (λ q. q < n) (targets es p)
targets_within [] n p h = All-nil (λ q. q < n)
targets_within (e ∷ es) n p h =
    targets_within_by (e.from == p) e.to n (targets es p) (All-head (λ (e : Edge). (e.from < n) × (e.to < n)) e es h).1 (targets_within es n p (All-tail (λ (e : Edge). (e.from < n) × (e.to < n)) e es h))

-- no edge leads past n
unmet_out : (es : List Edge) (n : ℕ) (ps : List ℕ) (q : ℕ) → AreWithin n es → n ≤ q → unmet_of es ps q ≡ 0
unmet_out [] n ps q h le = refl
unmet_out (e ∷ es) n ps q h le =
    let first : e.to < n = (All-head (λ (e : Edge). (e.from < n) × (e.to < n)) e es h).1 in
    let other : (e.to == q) ≡ false = grind (arith, common_steps) in
    sum_by-cons _ e es ∙ ap (λ (b : Bool). cond (b && not (member e.from ps)) 1 0 + unmet_of es ps q) other
    ∙ (let ih : unmet_of es ps q ≡ 0 = unmet_out es n ps q (All-tail (λ (e : Edge). (e.from < n) × (e.to < n)) e es h) le in omega (arith, ih))

-- a node with an unmet edge is below n
pub unmet_within : (es : List Edge) (n : ℕ) (ps : List ℕ) (q : ℕ) → AreWithin n es → 0 < unmet_of es ps q → q < n
unmet_within es n ps q h lt = grind (arith, unmet_out es n ps q h)

-- the least of the ready nodes is the next one
pub next_from : (es : List Edge) (n : ℕ) (ls : List ℕ) (p : ℕ) (has : ℕ → Bool)
    → ((q : ℕ) → has q ≡ (nat_lt q n && (not (member q ls) && (unmet_of es ls q == 0))))
    → has p ≡ true → ((q : ℕ) → has q ≡ true → p ≤ q) → IsNext es n ls p
next_from es n ls p has h in' least = record {
  within = grind (arith, common_steps, h p);
  unplaced = grind (arith, common_steps, h p);
  ready = grind (arith, common_steps, h p);
  least = λ k lt out. grind (arith, common_steps, h k, least k);
}

-- what is ready when p is placed
pub ready_step : (n q p u u' k : ℕ) (m has after new : Bool)
    → has ≡ (nat_lt q n && (not m && (u == 0)))
    → after ≡ cond (p == q) false has
    → new ≡ (after || (nat_lt 0 k && (u' == 0)))
    → u' + k ≡ u → (0 < u → q < n) → (m ≡ true → u ≡ 0) → (p ≡ q → u ≡ 0)
    → new ≡ (nat_lt q n && (not (m || ((q == p) || false)) && (u' == 0)))
ready_step n q p u u' k true has after new a b c d e f g = let z : u ≡ 0 = f refl in grind (arith, common_steps)
ready_step n q p u u' k false has after new a b c d e f g = grind (arith, common_steps)

-- the order of the set is that of numbers
pub least_is : (p q : ℕ) → is_gt (nat_cmp p q) ≡ false → p ≤ q
least_is p q h = grind (arith, common_steps)

equal_laws : IsEquivalence nat_eq
equal_laws = record {
  refl = λ x. grind (arith, common_steps);
  symm = λ x y. grind (arith, common_steps);
  congr = λ x y z e. grind (arith, common_steps);
}

-- a list without repeats and one more
pub distinct_push : (ls : List ℕ) (p : ℕ) → IsDistinct nat_eq ls → member p ls ≡ false → IsDistinct nat_eq (ls ++ p ∷ [])
distinct_push ls p h k = IsDistinct-push equal_laws ls p h k

-- all are below n, and one more
pub below_push : (ls : List ℕ) (n p q : ℕ) → ((k : ℕ) → member k ls ≡ true → k < n) → p < n → member q (ls ++ p ∷ []) ≡ true → q < n
below_push ls n p q h lt m =
    let e : member q (ls ++ p ∷ []) ≡ (member q ls || ((q == p) || false)) = list_any-append (nat_eq q) ls (p ∷ []) in
    grind (arith, common_steps, h q)

-- numbers below n without repeats, and one more, are at most n
pub length_placed : (ls : List ℕ) (n p : ℕ) → IsDistinct nat_eq ls → ((k : ℕ) → member k ls ≡ true → k < n) → p < n → member p ls ≡ false → length (ls ++ p ∷ []) ≤ n
length_placed ls n p d b lt out = length-le_from_distinct_below (ls ++ p ∷ []) n (distinct_push ls p d out) (λ q m. below_push ls n p q b lt m)

-- numbers below n without repeats are at most n
pub length_below : (ls : List ℕ) (n : ℕ) → IsDistinct nat_eq ls → ((k : ℕ) → member k ls ≡ true → k < n) → length ls ≤ n
length_below ls n d b = length-le_from_distinct_below ls n d b

-- the measure of a loop that adds one of at most n
pub smaller : (n : ℕ) (ls : List ℕ) (p : ℕ) (ms : List ℕ) → ms ≡ ls ++ p ∷ [] → length (ls ++ p ∷ []) ≤ n → n - length ms < n - length ls
smaller n ls p ms e h = rw e (grind (arith, common_steps))

-- what is left of a count is the count after
pub left_over : (es : List Edge) (ls ms : List ℕ) (p q : ℕ) (u u' k : ℕ) → ms ≡ ls ++ p ∷ [] → u ≡ unmet_of es ls q → k ≡ count_of q (targets es p) → u' + k ≡ u → member p ls ≡ false → u' ≡ unmet_of es ms q
left_over es ls ms p q u u' k e a b c out = rw e (let l = unmet_push es ls p q out in omega (arith, l))

pub distinct_none : IsDistinct nat_eq []
unfolding IsDistinct
distinct_none = tt

is_equal : (p q : ℕ) → is_eq (nat_cmp p q) ≡ (p == q)
is_equal p q = grind (arith, common_steps)

-- what is ready after one more node
pub ready_push : (es : List Edge) (n : ℕ) (ls ms : List ℕ) (p q u' k : ℕ) (has after new : Bool) → AreWithin n es
    → ms ≡ ls ++ p ∷ [] → IsNext es n ls p → u' ≡ unmet_of es ms q → u' + k ≡ unmet_of es ls q → (member q ls ≡ true → unmet_of es ls q ≡ 0)
    → has ≡ (nat_lt q n && (not (member q ls) && (unmet_of es ls q == 0)))
    → after ≡ cond (is_eq (nat_cmp p q)) false has
    → new ≡ (after || (nat_lt 0 k && (u' == 0)))
    → new ≡ (nat_lt q n && (not (member q ms) && (unmet_of es ms q == 0)))
ready_push es n ls ms p q u' k has after new w e next a b met h1 h2 h3 =
    let m : member q ms ≡ (member q ls || ((q == p) || false)) = rw e (list_any-append (nat_eq q) ls (p ∷ [])) in
    rw (m, ← a) (ready_step n q p (unmet_of es ls q) u' k (member q ls) has after new h1 (h2 ∙ ap (λ (b : Bool). cond b false has) (is_equal p q)) h3 b (unmet_within es n ls q w) met (λ (s : p ≡ q). subst (λ (x : ℕ). unmet_of es ls x ≡ 0) s next.ready))

-- a placed node, or the one that is placed next, has no unmet edge
was_met : (es : List Edge) (ls : List ℕ) (p q : ℕ) → unmet_of es ls p ≡ 0 → (member q ls ≡ true → unmet_of es ls q ≡ 0) → (member q ls || ((q == p) || false)) ≡ true → unmet_of es ls q ≡ 0
was_met es ls p q z met h = grind (arith, common_steps)

-- a placed node has no unmet edge, also after one more
pub met_push : (es : List Edge) (n : ℕ) (ls ms : List ℕ) (p q : ℕ) → ms ≡ ls ++ p ∷ [] → IsNext es n ls p → (member q ls ≡ true → unmet_of es ls q ≡ 0) → member q ms ≡ true → unmet_of es ms q ≡ 0
met_push es n ls ms p q e next met h =
    let m : member q ms ≡ (member q ls || ((q == p) || false)) = rw e (list_any-append (nat_eq q) ls (p ∷ [])) in
    let l = unmet_push es ls p q next.unplaced in
    let z : unmet_of es ls q ≡ 0 = was_met es ls p q next.ready met (sym m ∙ h) in
    rw e (omega (arith, l, z))

-- all nodes are placed, each once
pub order_of : (es : List Edge) (n : ℕ) (ls : List ℕ) → IsPlaced es n ls → length ls ≤ n → ((q : ℕ) → q < n → member q ls ≡ true) → IsOrder es n ls
order_of es n ls placed few all = record {
  placed = placed;
  all = all;
  count = (let many : n ≤ length ls = le-length_from_below ls n all in omega (arith, many, few));
}
