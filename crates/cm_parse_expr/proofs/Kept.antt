-- Heights of lists.
use Rattle.std.specs.Prelude.{◌≡◌, refl, ◌+◌, List, [], ◌∷◌}
use Rattle.std.proofs.Common.{arith}
use Rattle.cm_tree.specs.declared.expr.Expr.{Expr}
use Rattle.cm_tree.specs.Heights.{tallest, sizes_height}
use Rattle.cm_tree.specs.Lists.{highest}

sizes_by : (x : Expr) (xs : List Expr) → sizes_height (x ∷ xs) ≡ tallest (x ∷ xs) + 1
unfolding highest
sizes_by x [] = omega arith
sizes_by x (y ∷ ys) = let h = sizes_by y ys in omega arith

-- the height of some sizes is one more than that of the greatest
pub sizes_some : (xs : List Expr) → (xs ≡ [] → ⊥) → sizes_height xs ≡ tallest xs + 1
sizes_some [] some = absurd (some refl)
sizes_some (x ∷ xs) some = sizes_by x xs
