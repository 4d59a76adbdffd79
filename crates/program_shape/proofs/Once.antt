-- Numbers of which none stands twice, and edges of which no two lead to one node.
use Rattle.std.proofs.Common.{◌≡◌, ℕ, ◌+◌, ◌<◌, false, List, [], ◌∷◌, ◌++◌, length, get_or, take, arith, nat_eq}
use Rattle.std.specs.Prelude.{◌||◌}
use Rattle.std.specs.List.{IsDistinct}
use Rattle.std.specs.Cmp.{IsEquivalence}
use Rattle.std.proofs.lemmas.List.Folds.{list_any_more}
use Rattle.std.proofs.lemmas.Map.Keys.{IsDistinct-push}
use Rattle.std.proofs.lemmas.Grind.{common_steps}
use Rattle.graph_search.specs.Edges.{member}

equal_laws : IsEquivalence nat_eq
equal_laws = record {
  refl = λ x. grind (arith, common_steps);
  symm = λ x y. grind (arith, common_steps);
  congr = λ x y z e. grind (arith, common_steps);
}

pub distinct_none : IsDistinct nat_eq []
unfolding IsDistinct
distinct_none = tt

pub distinct_push : (ls : List ℕ) (p : ℕ) → IsDistinct nat_eq ls → member p ls ≡ false → IsDistinct nat_eq (ls ++ p ∷ [])
distinct_push ls p h k = IsDistinct-push equal_laws ls p h k

-- one more number
pub member_more : (q : ℕ) (xs : List ℕ) (i : ℕ) → i < length xs → member q (take (i + 1) xs) ≡ (member q (take i xs) || nat_eq q (get_or xs i 0))
member_more q xs i lt = list_any_more (nat_eq q) xs i 0 lt
