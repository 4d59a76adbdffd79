-- Worked rows of the definitions.
use Rattle.std.proofs.Common.{◌≡◌, ℕ, ◌+◌, ◌<◌, true, false, List, [], ◌∷◌, refl, arith, get_or}
use Rattle.std.specs.List.{IsDistinct}
use Rattle.graph_search.specs.Edges.{IsBefore}
use Rattle.graph_search.specs.Orders.{unmet_of, IsNext, IsCycle}
use Rattle.graph_search.specs.Paths.{path_count}
use Rattle.graph_search.specs.declared.edges.Edge.{Edge}

abbrev edge : ℕ → ℕ → Edge
edge p q = record { from = p; to = q }

-- 0 leads to 1 and 2, and both lead to 3
abbrev diamond : List Edge
diamond = edge 0 1 ∷ edge 0 2 ∷ edge 1 3 ∷ edge 2 3 ∷ []

two_edges_into_3 : unmet_of diamond [] 3 ≡ 2
two_edges_into_3 = refl

one_of_them_placed : unmet_of diamond (0 ∷ 1 ∷ []) 3 ≡ 1
one_of_them_placed = refl

edge_from_0_to_2 : IsBefore diamond 0 2
edge_from_0_to_2 = refl

no_edge_from_0_to_3 : ¬ IsBefore diamond 0 3
no_edge_from_0_to_3 h = let e : false ≡ true = h in cc

least_0 : (k : ℕ) → k < 0 → 0 < unmet_of diamond [] k
least_0 k lt = absurd (omega (arith, lt))

first_is_0 : IsNext diamond 4 [] 0
first_is_0 = record {
  within = omega arith;
  unplaced = refl;
  ready = refl;
  least = λ k lt out. least_0 k lt;
}

-- 1 is ready too, and less
then_not_2 : ¬ IsNext diamond 4 (0 ∷ []) 2
then_not_2 h = let pos : 0 < 0 = h.least 1 (omega arith) refl in omega (arith, pos)

one_step : (i : ℕ) → i + 1 < 1 → IsBefore (edge 0 0 ∷ []) (get_or (0 ∷ []) i 0) (get_or (0 ∷ []) (i + 1) 0)
one_step i lt = absurd (omega (arith, lt))

loop_is_a_cycle : IsCycle (edge 0 0 ∷ []) (0 ∷ [])
unfolding IsDistinct
loop_is_a_cycle = record {
  some = omega arith;
  distinct = (tt, tt);
  steps = one_step;
  closes = refl;
}

two_paths : path_count diamond (false ∷ false ∷ false ∷ true ∷ []) 4 0 ≡ 2
two_paths = refl

none_of_one_edge : path_count diamond (false ∷ false ∷ false ∷ true ∷ []) 1 0 ≡ 0
none_of_one_edge = refl

-- a path ends at the first end
ends_at_1 : path_count (edge 0 1 ∷ edge 1 2 ∷ []) (false ∷ true ∷ true ∷ []) 3 0 ≡ 1
ends_at_1 = refl
