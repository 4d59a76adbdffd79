use Rattle.std.proofs.Common.{◌≡◌, ℕ, ◌+◌, ◌<◌, ◌≤◌, List, length, get_or, take, refl, sym, ◌∙◌, arith, zero, suc, add-one}
use Rattle.std.proofs.lemmas.List.{take_more_same}
use Rattle.std.proofs.Math.Seq.{take-length}
use Rattle.graph_search.specs.Orders.{IsNext, IsOrder}
use Rattle.graph_search.specs.declared.edges.Edge.{Edge}

-- two nodes cannot both be next
next_unique : (es : List Edge) (n : ℕ) (ls : List ℕ) (p q : ℕ) → IsNext es n ls p → IsNext es n ls q → p ≡ q
next_unique es n ls p q a b = grind (arith, a.least q, b.least p, a.unplaced, a.ready, b.unplaced, b.ready)

same_front : (es : List Edge) (n : ℕ) (xs ys : List ℕ) → IsOrder es n xs → IsOrder es n ys → (i : ℕ) → i ≤ n → take i xs ≡ take i ys
same_front es n xs ys h k zero le = refl
same_front es n xs ys h k (suc i) le =
    let ih : take i xs ≡ take i ys = same_front es n xs ys h k i (omega (arith, le)) in
    let lt : i < length xs = (let m = h.count in omega (arith, m, le)) in
    let lt' : i < length ys = (let m = k.count in omega (arith, m, le)) in
    let b : IsNext es n (take i ys) (get_or ys i 0) = k.placed i lt' in
    let b' : IsNext es n (take i xs) (get_or ys i 0) = rw ih b in
    let e : get_or xs i 0 ≡ get_or ys i 0 = next_unique es n (take i xs) _ _ (h.placed i lt) b' in
    let r : take (i + 1) xs ≡ take (i + 1) ys = take_more_same xs ys i 0 lt lt' ih e in
    rw add-one at r

take_all : (xs : List ℕ) (n : ℕ) → length xs ≡ n → take n xs ≡ xs
take_all xs n e = rw (← e) (take-length xs)

-- there is one order at most
pub unique : (es : List Edge) (n : ℕ) (xs ys : List ℕ) → IsOrder es n xs → IsOrder es n ys → xs ≡ ys
unique es n xs ys h k = sym (take_all xs n h.count) ∙ same_front es n xs ys h k n (omega arith) ∙ take_all ys n k.count
