-- A literal of `int32` is a number of that type, as each literal that is spelled: docs/LANGUAGE.md, "Tokens".
use Rattle.std.specs.Prelude.{◌≡◌, refl, ℤ, Bool, true, ◌&&◌, ◌||◌, List, [], ◌∷◌}
use Rattle.std.specs.List.{list_all}
use Rattle.std.proofs.Common.{ap, ◌∙◌}
use Rattle.cm_base.specs.declared.place.Place.{Place}
use Rattle.cm_base.specs.declared.host.Scalar.TheVariants as kind
use Rattle.cm_tree.specs.declared.path.Path.{Path}
use Rattle.cm_tree.specs.declared.path.Word.{Word}
use Rattle.cm_tree.specs.declared.operator.Unary.{Unary}
use Rattle.cm_tree.specs.declared.operator.Binary.{Binary}
use Rattle.cm_tree.specs.declared.expr.Expr.{Expr, Row_of-Expr, end_of-Expr, more_of-Expr}
use Rattle.cm_tree.specs.declared.expr.Base.{Base}
use Rattle.cm_tree.specs.declared.expr.Expr.TheVariants as e
use Rattle.cm_tree.specs.declared.expr.Base.TheVariants as b
use Rattle.cm_tree.specs.declared.expr.Base.TheBlock.{hidden-the_row-Expr-0, hidden-the_row-Expr-1}
use denote.Hole.Carrier.{hidden}
use Rattle.cm_meaning.specs.Types.{holds}

-- each literal in an expression, in a row of them, and in a base type
unfoldable mutual
  pub literals_fit : Expr → Bool
  literals_fit (e.Number p z wide) = wide || holds kind.Int32 z
  literals_fit (e.Truth p t) = true
  literals_fit (e.Name q) = true
  literals_fit (e.Call' q sh args) = row_fits args
  literals_fit (e.Construct' t sh sizes i args) = base_fits t && (row_fits sizes && row_fits args)
  literals_fit (e.Paren' p sh (more_of-Expr a end_of-Expr)) = literals_fit a
  literals_fit (e.Field' p sh (more_of-Expr a end_of-Expr) w) = literals_fit a
  literals_fit (e.Index' p sh (more_of-Expr a end_of-Expr) i (more_of-Expr c end_of-Expr)) = literals_fit a && literals_fit c
  literals_fit (e.Unary' p o sh (more_of-Expr a end_of-Expr)) = literals_fit a
  literals_fit (e.Binary' p o sh (more_of-Expr a end_of-Expr) i (more_of-Expr c end_of-Expr)) = literals_fit a && literals_fit c
  literals_fit (e.Choice' p sh (more_of-Expr t end_of-Expr) i (more_of-Expr a end_of-Expr) j (more_of-Expr c end_of-Expr)) =
      literals_fit t && (literals_fit a && literals_fit c)

  pub row_fits : {n : _} → Row_of-Expr n → Bool
  row_fits end_of-Expr = true
  row_fits (more_of-Expr a others) = literals_fit a && row_fits others

  pub base_fits : Base → Bool
  base_fits (b.Bool p) = true
  base_fits (b.Int p) = true
  base_fits (b.Int32 p) = true
  base_fits (b.Int64 p) = true
  base_fits (b.Wrap' p sh (more_of-Expr a end_of-Expr)) = literals_fit a
  base_fits (b.Clamp' p sh (more_of-Expr a end_of-Expr)) = literals_fit a

-- ---- one equation for each kind

pub literals_fit-Number : (p : Place) (z : ℤ) (wide : Bool) → literals_fit (e.Number p z wide) ≡ (wide || holds kind.Int32 z)
unfolding literals_fit hidden-the_row-Expr-0 hidden-the_row-Expr-1 hidden
literals_fit-Number p z wide = refl

abbrev given_fits : Expr → Bool
given_fits (e.Call' q sh args) = row_fits args
given_fits (e.Construct' t sh sizes i args) = row_fits args
given_fits _ = true

abbrev sizes_fit : Expr → Bool
sizes_fit (e.Construct' t sh sizes i args) = row_fits sizes
sizes_fit _ = true

fits-Call : (q : Path) (args : List Expr) → given_fits (e.Call q args) ≡ list_all literals_fit args
unfolding literals_fit row_fits hidden-the_row-Expr-0 hidden-the_row-Expr-1 hidden
fits-Call q [] = refl
fits-Call q (a ∷ args) = ap (λ (all : Bool). literals_fit a && all) (fits-Call q args)

fits-Construct : (t : Base) (sizes args : List Expr) → given_fits (e.Construct t sizes args) ≡ list_all literals_fit args
unfolding literals_fit row_fits hidden-the_row-Expr-0 hidden-the_row-Expr-1 hidden
fits-Construct t sizes [] = refl
fits-Construct t sizes (a ∷ args) = ap (λ (all : Bool). literals_fit a && all) (fits-Construct t sizes args)

fits-sizes : (t : Base) (sizes args : List Expr) → sizes_fit (e.Construct t sizes args) ≡ list_all literals_fit sizes
unfolding literals_fit row_fits hidden-the_row-Expr-0 hidden-the_row-Expr-1 hidden
fits-sizes t [] args = refl
fits-sizes t (a ∷ sizes) args = ap (λ (all : Bool). literals_fit a && all) (fits-sizes t sizes args)

pub literals_fit-Call : (q : Path) (args : List Expr) → literals_fit (e.Call q args) ≡ list_all literals_fit args
unfolding literals_fit hidden-the_row-Expr-0 hidden-the_row-Expr-1 hidden
literals_fit-Call q args = fits-Call q args

pub literals_fit-Construct : (t : Base) (sizes args : List Expr) → literals_fit (e.Construct t sizes args) ≡ (base_fits t && (list_all literals_fit sizes && list_all literals_fit args))
unfolding literals_fit hidden-the_row-Expr-0 hidden-the_row-Expr-1 hidden
literals_fit-Construct t sizes args =
    ap (λ (all : Bool). base_fits t && (all && given_fits (e.Construct t sizes args))) (fits-sizes t sizes args)
    ∙ ap (λ (all : Bool). base_fits t && (list_all literals_fit sizes && all)) (fits-Construct t sizes args)

pub literals_fit-Paren : (p : Place) (a : Expr) → literals_fit (e.Paren p a) ≡ literals_fit a
unfolding literals_fit hidden-the_row-Expr-0 hidden-the_row-Expr-1 hidden
literals_fit-Paren p a = refl

pub literals_fit-Field : (p : Place) (a : Expr) (w : Word) → literals_fit (e.Field p a w) ≡ literals_fit a
unfolding literals_fit hidden-the_row-Expr-0 hidden-the_row-Expr-1 hidden
literals_fit-Field p a w = refl

pub literals_fit-Index : (p : Place) (a c : Expr) → literals_fit (e.Index p a c) ≡ (literals_fit a && literals_fit c)
unfolding literals_fit hidden-the_row-Expr-0 hidden-the_row-Expr-1 hidden
literals_fit-Index p a c = refl

pub literals_fit-Unary : (p : Place) (o : Unary) (a : Expr) → literals_fit (e.Unary p o a) ≡ literals_fit a
unfolding literals_fit hidden-the_row-Expr-0 hidden-the_row-Expr-1 hidden
literals_fit-Unary p o a = refl

pub literals_fit-Binary : (p : Place) (o : Binary) (a c : Expr) → literals_fit (e.Binary p o a c) ≡ (literals_fit a && literals_fit c)
unfolding literals_fit hidden-the_row-Expr-0 hidden-the_row-Expr-1 hidden
literals_fit-Binary p o a c = refl

pub literals_fit-Choice : (p : Place) (t a c : Expr) → literals_fit (e.Choice p t a c) ≡ (literals_fit t && (literals_fit a && literals_fit c))
unfolding literals_fit hidden-the_row-Expr-0 hidden-the_row-Expr-1 hidden
literals_fit-Choice p t a c = refl

pub base_fits-Wrap : (p : Place) (a : Expr) → base_fits (b.Wrap p a) ≡ literals_fit a
unfolding literals_fit base_fits hidden-the_row-Expr-0 hidden-the_row-Expr-1 hidden
base_fits-Wrap p a = refl

pub base_fits-Clamp : (p : Place) (a : Expr) → base_fits (b.Clamp p a) ≡ literals_fit a
unfolding literals_fit base_fits hidden-the_row-Expr-0 hidden-the_row-Expr-1 hidden
base_fits-Clamp p a = refl
