-- The height of an expression or a type: docs/LANGUAGE.md, "Limits". Each operator, step, call, pair of parentheses,
-- array size, path, base type and number on the way from the root counts one.
use Rattle.std.specs.Prelude.{ℕ, ℤ, ◌+◌, max, ◌≡◌, refl, List, [], ◌∷◌, Bool}
use Rattle.std.proofs.Common.{ap, sym, ◌∙◌, arith}
use Rattle.cm_base.specs.declared.place.Place.{Place}
use Rattle.cm_tree.specs.declared.path.Path.{Path}
use Rattle.cm_tree.specs.declared.path.Word.{Word}
use Rattle.cm_tree.specs.declared.operator.Unary.{Unary}
use Rattle.cm_tree.specs.declared.operator.Binary.{Binary}
use Rattle.cm_tree.specs.declared.expr.Expr.{Expr, Row_of-Expr, end_of-Expr, more_of-Expr}
use Rattle.cm_tree.specs.declared.expr.Base.{Base}
use Rattle.cm_tree.specs.declared.expr.Expr.TheVariants as e
use Rattle.cm_tree.specs.declared.expr.Base.TheVariants as b
use Rattle.cm_tree.specs.declared.expr.Base.TheBlock.{hidden-the_row-Expr-0, hidden-the_row-Expr-1}
use denote.Hole.Carrier.{hidden}
use Rattle.cm_tree.specs.Lists.{highest, highest-nil, highest-push}

unfoldable mutual
  pub height : Expr → ℕ
  height (e.Number p v w) = 1
  height (e.Truth p t) = 1
  height (e.Name q) = 1
  height (e.Call' q h args) = max 1 (tallest_row args) + 1
  height (e.Construct' b h sizes i args) = max (max (base_height b) (sizes_row sizes)) (tallest_row args) + 1
  height (e.Paren' p h (more_of-Expr a end_of-Expr)) = height a + 1
  height (e.Field' p h (more_of-Expr a end_of-Expr) w) = height a + 1
  height (e.Index' p h (more_of-Expr a end_of-Expr) i (more_of-Expr x end_of-Expr)) = max (height a) (height x) + 1
  height (e.Unary' p o h (more_of-Expr a end_of-Expr)) = height a + 1
  height (e.Binary' p o h (more_of-Expr a end_of-Expr) i (more_of-Expr x end_of-Expr)) = max (height a) (height x) + 1
  height (e.Choice' p h (more_of-Expr c end_of-Expr) i (more_of-Expr a end_of-Expr) j (more_of-Expr x end_of-Expr)) = max (height c) (max (height a) (height x)) + 1

  pub tallest_row : {m : _} → Row_of-Expr m → ℕ
  tallest_row end_of-Expr = 0
  tallest_row (more_of-Expr x rest) = max (height x) (tallest_row rest)

  pub sizes_row : {m : _} → Row_of-Expr m → ℕ
  sizes_row end_of-Expr = 0
  sizes_row (more_of-Expr x rest) = max (height x + 1) (sizes_row rest)

  pub base_height : Base → ℕ
  base_height (b.Bool p) = 1
  base_height (b.Int p) = 1
  base_height (b.Int32 p) = 1
  base_height (b.Int64 p) = 1
  base_height (b.Wrap' p h (more_of-Expr a end_of-Expr)) = height a + 1
  base_height (b.Clamp' p h (more_of-Expr a end_of-Expr)) = height a + 1

-- the greatest height of some expressions
abbrev pub tallest : List Expr → ℕ
tallest xs = highest height xs

-- that of array sizes, which count one each
abbrev pub bracketed : Expr → ℕ
bracketed x = height x + 1

abbrev pub sizes_height : List Expr → ℕ
sizes_height xs = highest bracketed xs

-- that of a base type with its sizes
unfoldable pub sized : Base → List Expr → ℕ
sized b sizes = max (base_height b) (sizes_height sizes)

-- ---- one equation for each kind

pub height-Number : (p : Place) (v : ℤ) (w : Bool) → height (e.Number p v w) ≡ 1
unfolding height
height-Number p v w = refl

pub height-Truth : (p : Place) (t : Bool) → height (e.Truth p t) ≡ 1
unfolding height
height-Truth p t = refl

pub height-Name : (q : Path) → height (e.Name q) ≡ 1
unfolding height
height-Name q = refl

tallest-row : (q : Path) (args : List Expr) → height (e.Call q args) ≡ max 1 (tallest args) + 1
unfolding height tallest_row highest hidden-the_row-Expr-0 hidden-the_row-Expr-1 hidden
tallest-row q [] = omega arith
tallest-row q (x ∷ args) = let h = tallest-row q args in omega arith

pub height-Call : (q : Path) (args : List Expr) → height (e.Call q args) ≡ max 1 (tallest args) + 1
height-Call q args = tallest-row q args

front-out : (b x s t : ℕ) → max (max b (max x s)) t ≡ max x (max (max b s) t)
front-out b x s t = omega arith

last-out : (b x t : ℕ) → max b (max x t) ≡ max x (max b t)
last-out b x t = omega arith

less-one : (m n : ℕ) → m + 1 ≡ n + 1 → m ≡ n
less-one m n h = omega arith

sizes-row : (b : Base) (sizes args : List Expr) → height (e.Construct b sizes args) ≡ max (sized b sizes) (tallest args) + 1
unfolding height base_height sized sizes_row tallest_row highest hidden-the_row-Expr-0 hidden-the_row-Expr-1 hidden
sizes-row b [] [] = omega arith
sizes-row b [] (x ∷ args) =
    let h = less-one _ _ (sizes-row b [] args) in
    ap (λ (n : ℕ). n + 1) (last-out _ (height x) _ ∙ ap (λ (n : ℕ). max (height x) n) h ∙ sym (last-out _ (height x) _))
sizes-row b (x ∷ sizes) args =
    let h = less-one _ _ (sizes-row b sizes args) in
    ap (λ (n : ℕ). n + 1) (front-out _ (height x + 1) _ _ ∙ ap (λ (n : ℕ). max (height x + 1) n) h ∙ sym (front-out _ (height x + 1) _ _))

pub height-Construct : (b : Base) (sizes args : List Expr) → height (e.Construct b sizes args) ≡ max (sized b sizes) (tallest args) + 1
height-Construct b sizes args = sizes-row b sizes args

pub height-Paren : (p : Place) (a : Expr) → height (e.Paren p a) ≡ height a + 1
unfolding height hidden-the_row-Expr-0 hidden-the_row-Expr-1 hidden
height-Paren p a = refl

pub height-Field : (p : Place) (a : Expr) (w : Word) → height (e.Field p a w) ≡ height a + 1
unfolding height hidden-the_row-Expr-0 hidden-the_row-Expr-1 hidden
height-Field p a w = refl

pub height-Index : (p : Place) (a i : Expr) → height (e.Index p a i) ≡ max (height a) (height i) + 1
unfolding height hidden-the_row-Expr-0 hidden-the_row-Expr-1 hidden
height-Index p a i = refl

pub height-Unary : (p : Place) (o : Unary) (a : Expr) → height (e.Unary p o a) ≡ height a + 1
unfolding height hidden-the_row-Expr-0 hidden-the_row-Expr-1 hidden
height-Unary p o a = refl

pub height-Binary : (p : Place) (o : Binary) (a b : Expr) → height (e.Binary p o a b) ≡ max (height a) (height b) + 1
unfolding height hidden-the_row-Expr-0 hidden-the_row-Expr-1 hidden
height-Binary p o a b = refl

pub height-Choice : (p : Place) (c a b : Expr) → height (e.Choice p c a b) ≡ max (height c) (max (height a) (height b)) + 1
unfolding height hidden-the_row-Expr-0 hidden-the_row-Expr-1 hidden
height-Choice p c a b = refl

pub base_height-Bool : (p : Place) → base_height (b.Bool p) ≡ 1
unfolding height base_height
base_height-Bool p = refl

pub base_height-Int : (p : Place) → base_height (b.Int p) ≡ 1
unfolding height base_height
base_height-Int p = refl

pub base_height-Int32 : (p : Place) → base_height (b.Int32 p) ≡ 1
unfolding height base_height
base_height-Int32 p = refl

pub base_height-Int64 : (p : Place) → base_height (b.Int64 p) ≡ 1
unfolding height base_height
base_height-Int64 p = refl

pub base_height-Wrap : (p : Place) (a : Expr) → base_height (b.Wrap p a) ≡ height a + 1
unfolding height base_height hidden-the_row-Expr-0 hidden-the_row-Expr-1 hidden
base_height-Wrap p a = refl

pub base_height-Clamp : (p : Place) (a : Expr) → base_height (b.Clamp p a) ≡ height a + 1
unfolding height base_height hidden-the_row-Expr-0 hidden-the_row-Expr-1 hidden
base_height-Clamp p a = refl

pub sized-is : (b : Base) (sizes : List Expr) → sized b sizes ≡ max (base_height b) (sizes_height sizes)
unfolding sized
sized-is b sizes = refl

pub ruleset heights = (height-Number, height-Truth, height-Name, height-Call, height-Construct, height-Paren, height-Field, height-Index, height-Unary, height-Binary, height-Choice)

pub ruleset base_heights = (base_height-Bool, base_height-Int, base_height-Int32, base_height-Int64, base_height-Wrap, base_height-Clamp)

pub ruleset list_heights = (highest-nil, highest-push, sized-is)
