use Rattle.std.proofs.Common.{◌≡◌, ℕ, ◌+◌, ◌<◌, ◌≤◌, ◌-◌, true, not, List, [], ◌∷◌, length, get_or, take, ◌∙◌, sym, arith, nat_eq, ⊎_elim, subst, zero, suc, cond, add-one}
use Rattle.std.specs.Prelude.{◌==◌, ◌&&◌, ◌||◌}
use Rattle.std.proofs.lemmas.List.Sums.{sum_by-cons}
use Rattle.std.proofs.lemmas.List.Folds.{list_any_more}
use Rattle.std.proofs.lemmas.Bool.{cases_eq}
use Rattle.std.proofs.lemmas.List.Elements.{All-head, All-tail}
use Rattle.std.proofs.Math.Seq.{take-length}
use Rattle.std.proofs.lemmas.Grind.{common_steps}
use Rattle.graph_search.specs.Orders.{unmet_of, IsPlaced, IsOrder, IsCycle, IsAcyclic}
use Rattle.graph_search.specs.Edges.{AreWithin, member, IsBefore}
use Rattle.graph_search.specs.declared.edges.Edge.{Edge}

met_cases : (e : Edge) (es : List Edge) (ps : List ℕ) (p q : ℕ) → cond ((e.to == q) && not (member e.from ps)) 1 0 + unmet_of es ps q ≡ 0 → IsBefore (e ∷ es) p q
    → (unmet_of es ps q ≡ 0 → IsBefore es p q → member p ps ≡ true) → member p ps ≡ true
met_cases e es ps p q z b ih = ⊎_elim
    (λ (h : e.from ≡ p).
    ⊎_elim (λ (k : e.to ≡ q). subst (λ (x : ℕ). member x ps ≡ true) h (grind (arith, common_steps)))
    (λ (k : e.to ≡ q → ⊥). ih (omega arith) (grind (arith, common_steps)))
    (cases_eq e.to q))
    (λ (h : e.from ≡ p → ⊥). ih (omega arith) (grind (arith, common_steps)))
    (cases_eq e.from p)

-- a node that no edge from an unplaced node leads to has all its predecessors placed
pub met : (es : List Edge) (ps : List ℕ) (p q : ℕ) → unmet_of es ps q ≡ 0 → IsBefore es p q → member p ps ≡ true
met [] ps p q z b = cc
met (e ∷ es) ps p q z b =
    let s : unmet_of (e ∷ es) ps q ≡ cond ((e.to == q) && not (member e.from ps)) 1 0 + unmet_of es ps q = sum_by-cons _ e es in
    met_cases e es ps p q (sym s ∙ z) b (met es ps p q)

-- in an order each node stands after those before it
pub respects : (es : List Edge) (n : ℕ) (ls : List ℕ) → IsPlaced es n ls → (j : ℕ) → j < length ls → (p : ℕ) → IsBefore es p (get_or ls j 0) → member p (take j ls) ≡ true
respects es n ls h j lt p b = met es (take j ls) p (get_or ls j 0) (h j lt).ready b

-- the node of a cycle that is before the one at k
abbrev back : (cs : List ℕ) (k : ℕ) → ℕ
back cs zero = length cs - 1
back cs (suc k) = k

back_lt : (cs : List ℕ) (k : ℕ) → k < length cs → back cs k < length cs
back_lt cs zero lt = omega arith
back_lt cs (suc k) lt = omega arith

back_before : (es : List Edge) (cs : List ℕ) → IsCycle es cs → (k : ℕ) → k < length cs → IsBefore es (get_or cs (back cs k) 0) (get_or cs k 0)
back_before es cs h zero lt = h.closes
back_before es cs h (suc k) lt = rw (← add-one) (h.steps k (omega arith))

none_placed : (es : List Edge) (n : ℕ) (ls cs : List ℕ) → IsPlaced es n ls → IsCycle es cs → (i : ℕ) → i ≤ length ls → (k : ℕ) → k < length cs → member (get_or cs k 0) (take i ls) ≡ true → ⊥
none_placed es n ls cs h c zero le k lt m = (cc)
none_placed es n ls cs h c (suc i) le k lt m =
    let more : member (get_or cs k 0) (take (i + 1) ls) ≡ (member (get_or cs k 0) (take i ls) || (get_or cs k 0 == get_or ls i 0)) = list_any_more (nat_eq (get_or cs k 0)) ls i 0 (omega arith) in
    let m' : member (get_or cs k 0) (take (i + 1) ls) ≡ true = rw add-one m in
    ⊎_elim
    (λ (e : get_or cs k 0 ≡ get_or ls i 0).
    none_placed es n ls cs h c i (omega arith) (back cs k) (back_lt cs k lt)
    (respects es n ls h i (omega arith) (get_or cs (back cs k) 0) (subst (λ (x : ℕ). IsBefore es (get_or cs (back cs k) 0) x) e (back_before es cs c k lt))))
    (λ (ne : get_or cs k 0 ≡ get_or ls i 0 → ⊥).
    none_placed es n ls cs h c i (omega arith) k lt (grind (arith, common_steps, more, m')))
    (cases_eq (get_or cs k 0) (get_or ls i 0))

before_cases : (e : Edge) (es : List Edge) (n p q : ℕ) → e.to < n → (IsBefore es p q → q < n) → IsBefore (e ∷ es) p q → q < n
before_cases e es n p q lt ih b = ⊎_elim
    (λ (k : e.to ≡ q). grind (arith))
    (λ (k : e.to ≡ q → ⊥). ih (grind (arith, common_steps)))
    (cases_eq e.to q)

-- an edge leads to a node below n
pub before_within : (es : List Edge) (n p q : ℕ) → AreWithin n es → IsBefore es p q → q < n
before_within [] n p q w b = cc
before_within (e ∷ es) n p q w b =
    before_cases e es n p q (All-head (λ (e : Edge). (e.from < n) × (e.to < n)) e es w).1
    (before_within es n p q (All-tail (λ (e : Edge). (e.from < n) × (e.to < n)) e es w)) b

-- where there is an order there is no cycle
pub no_cycle : (es : List Edge) (n : ℕ) (ls : List ℕ) → AreWithin n es → IsOrder es n ls → IsAcyclic es
no_cycle es n ls w h cs c =
    let lt : get_or cs 0 0 < n = before_within es n _ _ w c.closes in
    none_placed es n ls cs h.placed c (length ls) (omega arith) 0 c.some (rw take-length (h.all (get_or cs 0 0) lt))
