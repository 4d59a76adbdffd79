-- There is one order at most.
use Rattle.std.proofs.Common.{◌≡◌, ℕ, ◌+◌, ◌<◌, ◌≤◌, true, false, List, [], ◌∷◌, length, get_or, take, refl, sym, ap, ◌∙◌, arith, zero, suc, add-one, ⊎_elim}
use Rattle.std.proofs.lemmas.List.{take_more_same}
use Rattle.std.proofs.lemmas.Bool.{cases_lt}
use Rattle.std.proofs.Math.Seq.{take-length}
use Rattle.cm_base.specs.declared.place.LeafId.{LeafId}
use Rattle.cm_core.specs.declared.flat.Flat.{Flat}
use Rattle.graph_search.specs.Edges.{member}
use Rattle.graph_order.specs.Before.{numbers}
use Rattle.graph_order.specs.Order.{Waits, IsNext, IsOrder, IsOrderOf}

-- a leaf that isn't placed isn't in front of the next one
not_less : (flat : Flat) (placed : List ℕ) (p q : ℕ) → IsNext flat placed p → IsNext flat placed q → p < q → ⊥
not_less flat placed p q a b lt =
    let w : Waits flat placed p = b.first p lt a.unplaced in
    let r : member w.0 placed ≡ true = a.ready w.0 w.1 in
    let f : member w.0 placed ≡ false = w.2 in
    cc

next_unique : (flat : Flat) (placed : List ℕ) (p q : ℕ) → IsNext flat placed p → IsNext flat placed q → p ≡ q
next_unique flat placed p q a b = ⊎_elim
    (λ (lt : p < q). absurd (not_less flat placed p q a b lt))
    (λ (ge : q ≤ p). ⊎_elim
    (λ (lt : q < p). absurd (not_less flat placed q p b a lt))
    (λ (le : p ≤ q). omega arith)
    (cases_lt q p))
    (cases_lt p q)

same_front : (flat : Flat) (xs ys : List ℕ) → IsOrderOf flat xs → IsOrderOf flat ys → (i : ℕ) → i ≤ length flat.leaves → take i xs ≡ take i ys
same_front flat xs ys h k zero le = refl
same_front flat xs ys h k (suc i) le =
    let ih : take i xs ≡ take i ys = same_front flat xs ys h k i (omega (arith, le)) in
    let lt : i < length xs = (let m = h.count in omega (arith, m, le)) in
    let lt' : i < length ys = (let m = k.count in omega (arith, m, le)) in
    let b : IsNext flat (take i ys) (get_or ys i 0) = k.next i lt' in
    let b' : IsNext flat (take i xs) (get_or ys i 0) = rw ih b in
    let e : get_or xs i 0 ≡ get_or ys i 0 = next_unique flat (take i xs) _ _ (h.next i lt) b' in
    let r : take (i + 1) xs ≡ take (i + 1) ys = take_more_same xs ys i 0 lt lt' ih e in
    rw add-one at r

take_all : (xs : List ℕ) (n : ℕ) → length xs ≡ n → take n xs ≡ xs
take_all xs n e = rw (← e) (take-length xs)

same_numbers : (xs ys : List LeafId) → numbers xs ≡ numbers ys → xs ≡ ys
same_numbers [] [] e = refl
same_numbers [] (y ∷ ys) e = cc
same_numbers (x ∷ xs) [] e = cc
same_numbers (x ∷ xs) (y ∷ ys) e =
    let h : x.0 ≡ y.0 = cc in
    let t : numbers xs ≡ numbers ys = cc in
    let ih : xs ≡ ys = same_numbers xs ys t in
    let l : x ≡ y = ap (λ (n : ℕ). let id : LeafId = record { 0 = n } in id) h in
    cc

pub unique : (flat : Flat) (xs ys : List LeafId) → IsOrder flat xs → IsOrder flat ys → xs ≡ ys
unique flat xs ys h k = same_numbers xs ys
    (sym (take_all (numbers xs) (length flat.leaves) h.count)
    ∙ same_front flat (numbers xs) (numbers ys) h k (length flat.leaves) (omega arith)
    ∙ take_all (numbers ys) (length flat.leaves) k.count)
