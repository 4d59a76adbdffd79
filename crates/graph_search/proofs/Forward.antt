use Rattle.std.proofs.Common.{◌≡◌, ℕ, ◌+◌, ◌<◌, ◌≤◌, true, false, List, length, get_or, set, take, sym, arith, nat_eq, ⊎_elim, subst, zero, suc, add-one}
use Rattle.std.specs.Prelude.{◌==◌, ◌||◌}
use Rattle.std.proofs.lemmas.List.Folds.{list_any_more, list_any_kept}
use Rattle.std.proofs.Math.Seq.{take-length}
use Rattle.std.proofs.lemmas.Bool.{cases_eq}
use Rattle.std.proofs.lemmas.Grind.{common_steps}
use Rattle.graph_search.specs.Orders.{IsPlaced, IsOrder, IsRanking}
use Rattle.graph_search.specs.Edges.{AreWithin, member, IsBefore}
use Rattle.graph_search.specs.declared.edges.Edge.{Edge}
use Rattle.graph_search.proofs.NoCycle.{respects, before_within}

-- one of the first i + 1 nodes is the last of them or one of the first i
pub last_or : (P : Type 0) (q i : ℕ) (ls : List ℕ) → i < length ls → member q (take (i + 1) ls) ≡ true → (q ≡ get_or ls i 0 → P) → (member q (take i ls) ≡ true → P) → P
last_or P q i ls lt m last other =
    let more : member q (take (i + 1) ls) ≡ (member q (take i ls) || (q == get_or ls i 0)) = list_any_more (nat_eq q) ls i 0 lt in
    ⊎_elim last (λ (ne : q ≡ get_or ls i 0 → ⊥). other (grind (arith, common_steps, more, m))) (cases_eq q (get_or ls i 0))

-- in an order what is before one of the first i + 1 nodes is one of the first i
pub before_in : (es : List Edge) (n : ℕ) (ls : List ℕ) → IsPlaced es n ls → (i : ℕ) → i < length ls → (p q : ℕ) → IsBefore es p q → member q (take (i + 1) ls) ≡ true → member p (take i ls) ≡ true
before_in es n ls h zero lt p q b m = last_or _ q zero ls lt m
    (λ e. respects es n ls h zero lt p (subst (λ (x : ℕ). IsBefore es p x) e b))
    (λ m'. cc)
before_in es n ls h (suc i) lt p q b m = last_or _ q (suc i) ls lt m
    (λ e. respects es n ls h (suc i) lt p (subst (λ (x : ℕ). IsBefore es p x) e b))
    (λ m'.
    let m'' : member q (take (i + 1) ls) ≡ true = rw add-one m' in
    let k : member p (take (i + 1) ls) ≡ true = list_any_kept (nat_eq p) ls i (before_in es n ls h i (omega arith) p q b m'') in
    rw add-one at k)

-- the number that was written
set_here : (rs : List ℕ) (x q v : ℕ) → x < length rs → q ≡ x → get_or (set rs x v) q 0 ≡ v
set_here rs x q v lt e = grind (arith, common_steps)

-- and the others
set_other : (rs : List ℕ) (x q v : ℕ) → (q ≡ x → ⊥) → get_or (set rs x v) q 0 ≡ get_or rs q 0
set_other rs x q v ne = grind (arith, common_steps)

-- one in a list and one outside differ
apart : (p x : ℕ) (xs : List ℕ) → member p xs ≡ true → member x xs ≡ false → p ≡ x → ⊥
apart p x xs a b e = let c : member x xs ≡ true = subst (λ (y : ℕ). member y xs ≡ true) e a in cc

-- the node placed last has the least rank
pub high_more : (es : List Edge) (n : ℕ) (ls rs : List ℕ) (i left low : ℕ) → IsOrder es n ls → length rs ≡ n → i < length ls → low < left
    → ((q : ℕ) → member q (take i ls) ≡ true → left ≤ get_or rs q 0)
    → (q : ℕ) → member q (take (i + 1) ls) ≡ true → low ≤ get_or (set rs (get_or ls i 0) low) q 0
high_more es n ls rs i left low h len lt less high q m =
    let next = h.placed i lt in
    let within : get_or ls i 0 < length rs = (let w = next.within in omega (arith, w, len)) in
    last_or _ q i ls lt m
    (λ e. let s = set_here rs (get_or ls i 0) q low within e in omega (arith, s))
    (λ m'.
    let s = set_other rs (get_or ls i 0) q low (apart q (get_or ls i 0) (take i ls) m' next.unplaced) in
    let k = high q m' in
    omega (arith, s, k, less))

-- ranks fall along edges into one more node
pub falls_more : (es : List Edge) (n : ℕ) (ls rs : List ℕ) (i left low : ℕ) → IsOrder es n ls → length rs ≡ n → i < length ls → low < left
    → ((q : ℕ) → member q (take i ls) ≡ true → left ≤ get_or rs q 0)
    → ((p q : ℕ) → IsBefore es p q → member q (take i ls) ≡ true → get_or rs q 0 < get_or rs p 0)
    → (p q : ℕ) → IsBefore es p q → member q (take (i + 1) ls) ≡ true → get_or (set rs (get_or ls i 0) low) q 0 < get_or (set rs (get_or ls i 0) low) p 0
falls_more es n ls rs i left low h len lt less high falls p q b m =
    let x = get_or ls i 0 in
    let next = h.placed i lt in
    let within : x < length rs = (let w = next.within in omega (arith, w, len)) in
    let pm : member p (take i ls) ≡ true = before_in es n ls h.placed i lt p q b m in
    let sp = set_other rs x p low (apart p x (take i ls) pm next.unplaced) in
    let kp = high p pm in
    last_or _ q i ls lt m
    (λ e. let s = set_here rs x q low within e in omega (arith, s, sp, kp, less))
    (λ m'.
    let s = set_other rs x q low (apart q x (take i ls) m' next.unplaced) in
    let f = falls p q b m' in
    omega (arith, s, sp, f))

-- ranks are at most n
pub below_more : (rs : List ℕ) (x low n q : ℕ) → low ≤ n → ((q : ℕ) → get_or rs q 0 ≤ n) → get_or (set rs x low) q 0 ≤ n
below_more rs x low n q le h = grind (arith, common_steps, h q)

-- the numbers written for an order's nodes are a ranking
pub ranking_of : (es : List Edge) (n : ℕ) (ls rs : List ℕ) (i : ℕ) → AreWithin n es → IsOrder es n ls → i ≡ length ls → length rs ≡ n
    → ((p q : ℕ) → IsBefore es p q → member q (take i ls) ≡ true → get_or rs q 0 < get_or rs p 0) → ((q : ℕ) → get_or rs q 0 ≤ n) → IsRanking es n rs
ranking_of es n ls rs i w h e len falls below = record {
  count = len;
  falls = λ p q b.
      let m : member q (take (length ls) ls) ≡ true = rw take-length (h.all q (before_within es n p q w b)) in
      falls p q b (subst (λ (k : ℕ). member q (take k ls) ≡ true) (sym e) m);
  below = below;
}
