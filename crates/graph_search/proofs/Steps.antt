use Rattle.std.proofs.Common.{◌≡◌, ℕ, ◌+◌, ◌<◌, ◌≤◌, Bool, true, false, cond, not, List, [], ◌∷◌, ◌++◌, length, get_or, take, refl, ap, ◌∙◌, arith}
use Rattle.std.specs.Prelude.{◌==◌, ◌&&◌}
use Rattle.std.proofs.lemmas.List.Sums.{sum_by_more, sum_by_more_le, count_by-le-length}
use Rattle.std.proofs.lemmas.Grind.{common_steps}
use Rattle.std.proofs.lemmas.List.Elements.{filter_map-append}
use Rattle.graph_search.specs.Orders.{unmet_of}
use Rattle.graph_search.specs.Counts.{targets, count_of}
use Rattle.graph_search.specs.Edges.{member}
use Rattle.graph_search.specs.declared.edges.Edge.{Edge}

and_true : (b : Bool) → (b && true) ≡ b
and_true true = refl
and_true false = refl

-- one more edge of the degrees
pub unmet_more : (es : List Edge) (i q : ℕ) (d : Edge) → i < length es → unmet_of (take (i + 1) es) [] q ≡ unmet_of (take i es) [] q + cond ((get_or es i d).to == q) 1 0
unmet_more es i q d h = sum_by_more _ es i d h ∙ ap (λ (x : Bool). unmet_of (take i es) [] q + cond x 1 0) (and_true ((get_or es i d).to == q))

-- one more edge of the targets
pub targets_more : (es : List Edge) (i p : ℕ) (d : Edge) → i < length es → targets (take (i + 1) es) p ≡ targets (take i es) p ++ cond ((get_or es i d).from == p) ((get_or es i d).to ∷ []) []
targets_more es i p d h = grind (arith, common_steps, filter_map-append)

-- a degree is at most the number of edges
pub unmet_below : (es : List Edge) (ps : List ℕ) (i q : ℕ) → unmet_of (take i es) ps q ≤ length es
unmet_below es ps i q = grind (arith, common_steps, count_by-le-length (λ (e : Edge). (e.to == q) && not (member e.from ps)) (take i es))

-- one more number of a count
pub count_more : (q i : ℕ) (xs : List ℕ) → i < length xs → count_of q (take (i + 1) xs) ≡ count_of q (take i xs) + cond (get_or xs i 0 == q) 1 0
count_more q i xs h = sum_by_more _ xs i 0 h

-- a count so far is within the whole
pub count_more_le : (q i : ℕ) (xs : List ℕ) → i < length xs → count_of q (take i xs) + cond (get_or xs i 0 == q) 1 0 ≤ count_of q xs
count_more_le q i xs h = sum_by_more_le _ xs i 0 h
