-- The names of the functions for events.
use Rattle.std.proofs.Common.{◌≡◌, ◌<◌, ◌≤◌, ◌+◌, ◌-◌, ◌++◌, ◌^◌, ℕ, List, ◌∷◌, length, length-drop, take, drop, set, ap, ◌∙◌, arith, rules}
use Rattle.std.specs.Fmt.{decimal}
use Rattle.std.proofs.lemmas.List.{append-nil, drop_all, drop-set, take_all}
use Rattle.std.proofs.lemmas.Fmt.{length-decimal-le}

pub short : (n : ℕ) → n < 2 ^ 32 → length (decimal n) ≤ 11
short n l = search (rules, length-decimal-le 10)

-- the number is so short that the letter fits before it
pub begins_late : (n first : ℕ) → n < 2 ^ 32 → first + length (decimal n) ≡ 11 → 1 ≤ first
begins_late n first l e =
    let few : length (decimal n) ≤ 10 = search (rules, length-decimal-le 10) in
    omega (arith, few, e)

-- what stands from the letter on
pub named : (xs ys : List ℕ) (first n : ℕ) → 1 ≤ first → first + length (decimal n) ≡ 11 → length xs ≡ 11 → length ys ≡ 11 → drop first ys ≡ decimal n ++ drop 11 xs →
    take (length (set ys (first - 1) 101) - (first - 1)) (drop (first - 1) (set ys (first - 1) 101)) ≡ 101 ∷ decimal n
named xs ys first n h l lx ly e =
    let all : List ℕ = drop (first - 1) (set ys (first - 1) 101) in
    let long : length (set ys (first - 1) 101) ≡ 11 = search rules in
    let whole : length all ≤ length (set ys (first - 1) 101) - (first - 1) = omega (arith, length-drop (first - 1) (set ys (first - 1) 101)) in
    let next : first - 1 + 1 ≡ first = omega arith in
    take_all _ all whole ∙ drop-set ys (first - 1) 101 (omega arith) ∙ ap (λ k. 101 ∷ drop k ys) next
    ∙ ap (λ (t : List ℕ). 101 ∷ t) (e ∙ ap (λ t. decimal n ++ t) (drop_all 11 xs (omega arith)) ∙ append-nil (decimal n))
