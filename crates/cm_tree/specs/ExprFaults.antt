-- What the expression at the front of some tokens is, and where it has a fault: docs/LANGUAGE.md, "Faults of the
-- grammar", with "expression" for "file".
use Rattle.std.specs.Prelude.{ℕ, ◌≤◌, ◌≡◌, true, List, [], ◌∷◌, ◌++◌}
use Rattle.cm_base.specs.declared.place.Place.{Place}
use Rattle.cm_tree.specs.declared.token.Token.{Token}
use Rattle.cm_tree.specs.declared.sign.Sign.TheVariants as s
use Rattle.cm_tree.specs.declared.operator.Binary.{Binary}
use Rattle.cm_tree.specs.declared.expr.Expr.{Expr}
use Rattle.cm_tree.specs.Heights.{height}
use Rattle.cm_tree.specs.Levels.{binary_sign, ends_in_path}
use Rattle.cm_tree.specs.Spelling.{IsSign, SpellsExpr}
use Rattle.cm_tree.specs.Faults.{place_of}

-- the token continues the expression that stands before it
pub data Continues (a : Expr) (t : Token) : Type 0 where
  operator : (o : Binary) → IsSign (binary_sign o) t → Continues a t
  choice : IsSign s.Question t → Continues a t
  field : IsSign s.Dot t → Continues a t
  index : IsSign s.LeftBracket t → Continues a t
  call : ends_in_path a ≡ true → IsSign s.LeftParenthesis t → Continues a t
  name : ends_in_path a ≡ true → IsSign s.DoubleColon t → Continues a t

abbrev pub Ends : Expr → List Token → Type 0
Ends a [] = Unit {0}
Ends a (t ∷ ts) = Continues a t → ⊥

-- the tokens begin with this expression, which the next one of `others` doesn't continue, and it is no higher than `most`
pub record IsExpr (most : ℕ) (tokens : List Token) (a : Expr) (others : List Token) : Type 0 where
  pub used : List Token
  pub parts : tokens ≡ used ++ others
  pub spelled : SpellsExpr a used
  pub ends : Ends a others
  pub low : height a ≤ most

-- no expression begins with the tokens `seen` and the next one; where there is no next one, none begins them
abbrev pub NoExpr : ℕ → List Token → List Token → Type 0
NoExpr most seen [] = (a : Expr) (others : List Token) → IsExpr most seen a others → ⊥
NoExpr most seen (t ∷ ts) = (more : List Token) (a : Expr) (others : List Token) → IsExpr most (seen ++ t ∷ more) a others → ⊥

-- no expression no higher than `most` begins with the tokens through the place; after the last token the place is `last`
pub record IsExprFault (most : ℕ) (tokens : List Token) (last place : Place) : Type 0 where
  pub seen : List Token
  pub others : List Token
  pub parts : tokens ≡ seen ++ others
  pub place_is : place ≡ place_of last others
  pub none : NoExpr most seen others
