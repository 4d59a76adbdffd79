use Rattle.std.proofs.Common.{◌≡◌, ℕ, ◌+◌, ◌<◌, ◌-◌, List, [], ◌∷◌, length, get_or, refl, arith}
use Rattle.std.proofs.lemmas.Grind.{common_steps}
use Rattle.graph_search.specs.Edges.{IsBefore}
use Rattle.graph_search.specs.Orders.{IsCycle, IsRanking}
use Rattle.graph_search.specs.Paths.{LeadsThrough}
use Rattle.graph_search.specs.declared.edges.Edge.{Edge}

-- IsBefore at equal nodes
before_same : (es : List Edge) (p q p' q' : ℕ) → p ≡ p' → q ≡ q' → IsBefore es p q → IsBefore es p' q'
before_same es p q p' q' a b h = rw (← a, ← b) h

-- a list with an edge from each node to the next leads to what its last node leads to
leads : (es : List Edge) (c : ℕ) (cs : List ℕ) (q : ℕ)
    → ((i : ℕ) → i + 1 < length (c ∷ cs) → IsBefore es (get_or (c ∷ cs) i 0) (get_or (c ∷ cs) (i + 1) 0))
    → IsBefore es (get_or (c ∷ cs) (length (c ∷ cs) - 1) 0) q → LeadsThrough es c cs q
leads es c [] q steps closes = before_same es _ q c q (grind (arith, common_steps)) refl closes
leads es c (d ∷ ds) q steps closes = (
  before_same es _ _ c d (grind (arith, common_steps)) (grind (arith, common_steps)) (steps 0 (grind (arith, common_steps))),
  leads es d ds q
      (λ i lt. before_same es _ _ _ _ (grind (arith, common_steps)) (grind (arith, common_steps)) (steps (i + 1) (grind (arith, common_steps))))
      (before_same es _ q _ q (grind (arith, common_steps)) refl closes),
)

-- a cycle leads from its first node back to it
pub cycle_leads : (es : List Edge) (first : ℕ) (rest : List ℕ) → IsCycle es (first ∷ rest) → LeadsThrough es first rest first
cycle_leads es first rest h = leads es first rest first h.steps (before_same es _ _ _ first refl (grind (arith, common_steps)) h.closes)

-- ranks fall along a path
falls_through : (es : List Edge) (n : ℕ) (rs : List ℕ) → IsRanking es n rs → (p : ℕ) (hs : List ℕ) (q : ℕ) → LeadsThrough es p hs q → get_or rs q 0 < get_or rs p 0
falls_through es n rs r p [] q l = r.falls p q l
falls_through es n rs r p (h ∷ hs) q l =
    let a = r.falls p h l.0 in
    let b = falls_through es n rs r h hs q l.1 in
    omega (arith, a, b)

-- no node leads back to itself
pub never_back : (es : List Edge) (n : ℕ) (rs : List ℕ) → IsRanking es n rs → (p : ℕ) (hs : List ℕ) → ¬ LeadsThrough es p hs p
never_back es n rs r p hs l = let a = falls_through es n rs r p hs p l in omega (arith, a)
