-- What `parse_expr` answers.
use Rattle.std.specs.Prelude.{ℕ, ◌≡◌, ◌+◌, List, [], length, drop}
use Rattle.cm_base.specs.declared.cause.Cause.TheVariants.{Grammar}
use Rattle.cm_base.specs.declared.failure.Refused.{Refused}
use Rattle.cm_base.specs.declared.place.Place.{Place}
use Rattle.cm_tree.specs.declared.token.Token.{Token}
use Rattle.cm_tree.specs.declared.expr.Expr.{Expr}
use Rattle.cm_tree.specs.ExprFaults.{IsExpr, IsExprFault}

-- the expression that begins at a token, and the position after it
pub record IsExprAt (tokens : List Token) (from : ℕ) (found : Expr × ℕ) : Type 0 where
  pub others : List Token
  pub is : IsExpr 256 (drop from tokens) found.0 others
  pub end : found.1 + length others ≡ length tokens

-- the refusal has the place of a fault of an expression that begins these tokens
pub record IsExprRefusal (tokens : List Token) (last : Place) (refused : Refused) : Type 0 where
  pub cause : refused.cause ≡ Grammar
  pub cycle : refused.cycle ≡ []
  pub fault : IsExprFault 256 tokens last refused.place
