-- Nothing is declared in expressions and types.
use Rattle.std.proofs.Common.{◌≡◌, List, [], ◌∷◌, ◌++◌, Some, None, refl}
use Rattle.std.specs.Prelude.{Option, flat_map}
use Rattle.cm_tree.specs.declared.expr.Expr.{Expr, Row_of-Expr, end_of-Expr, more_of-Expr}
use Rattle.cm_tree.specs.declared.expr.Base.{Base}
use Rattle.cm_tree.specs.declared.expr.Expr.TheVariants as e
use Rattle.cm_tree.specs.declared.expr.Base.TheVariants as b
use Rattle.cm_tree.specs.declared.type_expr.TypeExpr.{TypeExpr}
use Rattle.cm_tree.specs.declared.type_expr.TypeExpr.TheVariants as y
use Rattle.cm_tree.specs.declared.simple.Step.{Step}
use Rattle.cm_tree.specs.declared.simple.Step.TheVariants as st
use Rattle.cm_tree.specs.declared.simple.Target.{Target}
use Rattle.cm_tree.specs.declared.simple.Simple.{Simple}
use Rattle.cm_tree.specs.declared.simple.Simple.TheVariants as i
use Rattle.cm_meaning.specs.Scopes.{Around}
use Rattle.cm_meaning.specs.Sites.{Site, site, TakesArgument, expr_sites, expr_sites_row, argument_sites, base_sites, arguments_sites, optional_sites, type_sites}
use Rattle.cm_meaning.specs.BodySites.{step_sites, target_sites, simple_sites, next_sites}
use Rattle.cm_meaning.specs.PatchSites.{site_names}

pub data NoWords : List Site → Type 0 where
  none : NoWords []
  more : {s : Site} {sites : List Site} → site_names s ≡ [] → NoWords sites → NoWords (s ∷ sites)

pub none_declared : {sites : List Site} → NoWords sites → flat_map site_names sites ≡ []
none_declared none = refl
none_declared (more {s} is h) = rw (is, none_declared h) refl

pub no_words_both : {sites others : List Site} → NoWords sites → NoWords others → NoWords (sites ++ others)
no_words_both none k = k
no_words_both (more is h) k = more is (no_words_both h k)

pub no_words_all : {A : Type 0} (f : A → List Site) → ((x : A) → NoWords (f x)) → (xs : List A) → NoWords (flat_map f xs)
no_words_all f each [] = none
no_words_all f each (x ∷ xs) = no_words_both (each x) (no_words_all f each xs)

-- ---- expressions and types

mutual
  unfolding expr_sites expr_sites_row argument_sites base_sites

  pub no_words_expr : (r : Around) (a : Expr) → NoWords (expr_sites r a)
  no_words_expr r (e.Number p v w) = none
  no_words_expr r (e.Truth p t) = none
  no_words_expr r (e.Name q) = more refl none
  no_words_expr r (e.Call' q sh args) = more refl (no_words_row_arguments r args)
  no_words_expr r (e.Construct' b sh sizes i args) = no_words_both (no_words_base r b) (no_words_both (no_words_row r sizes) (no_words_row_arguments r args))
  no_words_expr r (e.Paren' p sh (more_of-Expr a end_of-Expr)) = no_words_expr r a
  no_words_expr r (e.Field' p sh (more_of-Expr a end_of-Expr) w) = no_words_expr r a
  no_words_expr r (e.Index' p sh (more_of-Expr a end_of-Expr) i (more_of-Expr c end_of-Expr)) = no_words_both (no_words_expr r a) (no_words_expr r c)
  no_words_expr r (e.Unary' p o sh (more_of-Expr a end_of-Expr)) = no_words_expr r a
  no_words_expr r (e.Binary' p o sh (more_of-Expr a end_of-Expr) i (more_of-Expr c end_of-Expr)) = no_words_both (no_words_expr r a) (no_words_expr r c)
  no_words_expr r (e.Choice' p sh (more_of-Expr t end_of-Expr) i (more_of-Expr a end_of-Expr) j (more_of-Expr c end_of-Expr)) =
      no_words_both (no_words_expr r t) (no_words_both (no_words_expr r a) (no_words_expr r c))

  no_words_row : (r : Around) {n : _} (row : Row_of-Expr n) → NoWords (expr_sites_row r row)
  no_words_row r end_of-Expr = none
  no_words_row r (more_of-Expr a others) = no_words_both (no_words_expr r a) (no_words_row r others)

  no_words_row_arguments : (r : Around) {n : _} (row : Row_of-Expr n) → NoWords (argument_sites r row)
  no_words_row_arguments r end_of-Expr = none
  no_words_row_arguments r (more_of-Expr a others) = more refl (no_words_both (no_words_expr r a) (no_words_row_arguments r others))

  pub no_words_base : (r : Around) (a : Base) → NoWords (base_sites r a)
  no_words_base r (b.Bool p) = none
  no_words_base r (b.Int p) = none
  no_words_base r (b.Int32 p) = none
  no_words_base r (b.Int64 p) = none
  no_words_base r (b.Wrap' p sh (more_of-Expr a end_of-Expr)) = no_words_expr r a
  no_words_base r (b.Clamp' p sh (more_of-Expr a end_of-Expr)) = no_words_expr r a

pub no_words_optional : (r : Around) (a : Option Expr) → NoWords (optional_sites r a)
no_words_optional r None = none
no_words_optional r (Some a) = no_words_expr r a

no_words_arguments : (r : Around) (args : List Expr) → NoWords (arguments_sites r args)
no_words_arguments r args = no_words_all (λ (a : Expr). site r (TakesArgument a) ∷ expr_sites r a) (λ a. more refl (no_words_expr r a)) args

pub no_words_type : (r : Around) (ty : TypeExpr) → NoWords (type_sites r ty)
no_words_type r (y.Base b sizes) = no_words_both (no_words_base r b) (no_words_all (expr_sites r) (no_words_expr r) sizes)
no_words_type r (y.Named q sizes) = more refl (no_words_all (expr_sites r) (no_words_expr r) sizes)

-- ---- statements with no declaration

no_words_step : (r : Around) (a : Step) → NoWords (step_sites r a)
no_words_step r (st.Field w) = none
no_words_step r (st.Index p a) = no_words_expr r a

no_words_target : (r : Around) (t : Target) → NoWords (target_sites r t)
no_words_target r t = more refl (no_words_all (step_sites r) (no_words_step r) t.steps)

pub no_words_simple : (r : Around) (a : Simple) → NoWords (simple_sites r a)
no_words_simple r (i.Assign t o a) = no_words_both (no_words_target r t) (no_words_expr r a)
no_words_simple r (i.After t o) = no_words_target r t
no_words_simple r (i.Before p o t) = no_words_target r t
no_words_simple r (i.Call q args) = more refl (no_words_arguments r args)

pub no_words_next : (r : Around) (a : Option Simple) → NoWords (next_sites r a)
no_words_next r None = none
no_words_next r (Some a) = no_words_simple r a
