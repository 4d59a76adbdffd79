-- Which tokens spell an expression or a type: the grammar of docs/LANGUAGE.md, "Expressions" and "Types", one
-- constructor for each alternative.
use Rattle.std.specs.Prelude.{ℕ, ℤ, ◌≤◌, ◌<◌, ◌≡◌, Bool, true, false, List, [], ◌∷◌, ◌++◌}
use Rattle.cm_tree.specs.declared.token.Token.{Token}
use Rattle.cm_tree.specs.declared.token.TokenKind.TheVariants as k
use Rattle.cm_tree.specs.declared.sign.Sign.{Sign}
use Rattle.cm_tree.specs.declared.sign.Sign.TheVariants as s
use Rattle.cm_tree.specs.declared.reserved.Reserved.{Reserved}
use Rattle.cm_tree.specs.declared.reserved.Reserved.TheVariants as r
use Rattle.cm_tree.specs.declared.operator.Unary.{Unary}
use Rattle.cm_tree.specs.declared.operator.Binary.{Binary}
use Rattle.cm_tree.specs.declared.path.Path.{Path}
use Rattle.cm_tree.specs.declared.path.Word.{Word}
use Rattle.cm_tree.specs.declared.expr.Expr.{Expr}
use Rattle.cm_tree.specs.declared.expr.Base.{Base}
use Rattle.cm_tree.specs.declared.expr.Expr.TheVariants as e
use Rattle.cm_tree.specs.declared.expr.Base.TheVariants as b
use Rattle.cm_tree.specs.declared.type_expr.TypeExpr.{TypeExpr}
use Rattle.cm_tree.specs.declared.type_expr.TypeExpr.TheVariants as y
use Rattle.cm_tree.specs.declared.type_expr.Arg.{Arg}
use Rattle.cm_tree.specs.declared.type_expr.Arg.TheVariants as g
use Rattle.cm_tree.specs.Levels.{binary_sign, unary_sign, binds, level, place, sum_level, unary_level, post_level}

-- the token is this sign, this reserved word, this name
pub record IsSign (s : Sign) (t : Token) : Type 0 where
  pub kind : t.kind ≡ k.Sign s

pub record IsReserved (r : Reserved) (t : Token) : Type 0 where
  pub kind : t.kind ≡ k.Reserved r

pub record IsWord (w : Word) (t : Token) : Type 0 where
  pub kind : t.kind ≡ k.Word w.text
  pub place : w.place ≡ t.place

-- { "::" NAME }
pub data SpellsNames : List (List ℕ) → List Token → Type 0 where
  none : SpellsNames [] []
  more : (colons t : Token) (n : List ℕ) (ns : List (List ℕ)) (others : List Token)
      → IsSign s.DoubleColon colons → t.kind ≡ k.Word n → SpellsNames ns others → SpellsNames (n ∷ ns) (colons ∷ t ∷ others)

-- path = NAME { "::" NAME }
pub data SpellsPath : Path → List Token → Type 0 where
  path : (t : Token) (n : List ℕ) (ns : List (List ℕ)) (others : List Token)
      → t.kind ≡ k.Word n → SpellsNames ns others → SpellsPath (record { place = t.place; names = n ∷ ns }) (t ∷ others)

mutual
  -- all levels from `expr` to `atom`: an operator takes operands that bind tightly enough
  pub data SpellsExpr : Expr → List Token → Type 0 where
    number : (t : Token) (v : ℤ) (w : Bool) → t.kind ≡ k.Number v w → SpellsExpr (e.Number t.place v w) (t ∷ [])
    yes : (t : Token) → IsReserved r.True t → SpellsExpr (e.Truth t.place true) (t ∷ [])
    no : (t : Token) → IsReserved r.False t → SpellsExpr (e.Truth t.place false) (t ∷ [])
    name : (q : Path) (tokens : List Token) → SpellsPath q tokens → SpellsExpr (e.Name q) tokens
    call : (q : Path) (args : List Expr) (o c : Token) (front inner : List Token)
        → SpellsPath q front → IsSign s.LeftParenthesis o → SpellsArgs args inner → IsSign s.RightParenthesis c
        → SpellsExpr (e.Call q args) (front ++ o ∷ (inner ++ c ∷ []))
    construct : (b : Base) (sizes args : List Expr) (o c : Token) (front middle inner : List Token)
        → SpellsBase b front → SpellsSizes sizes middle → IsSign s.LeftParenthesis o → SpellsArgs args inner → IsSign s.RightParenthesis c
        → SpellsExpr (e.Construct b sizes args) (front ++ (middle ++ o ∷ (inner ++ c ∷ [])))
    paren : (a : Expr) (o c : Token) (inner : List Token)
        → IsSign s.LeftParenthesis o → SpellsExpr a inner → IsSign s.RightParenthesis c
        → SpellsExpr (e.Paren o.place a) (o ∷ (inner ++ c ∷ []))
    field : (a : Expr) (w : Word) (dot t : Token) (left : List Token)
        → post_level ≤ level a → SpellsExpr a left → IsSign s.Dot dot → IsWord w t
        → SpellsExpr (e.Field (place a) a w) (left ++ dot ∷ t ∷ [])
    index : (a i : Expr) (o c : Token) (left inner : List Token)
        → post_level ≤ level a → SpellsExpr a left → IsSign s.LeftBracket o → SpellsExpr i inner → IsSign s.RightBracket c
        → SpellsExpr (e.Index (place a) a i) (left ++ o ∷ (inner ++ c ∷ []))
    unary : (x : Unary) (a : Expr) (t : Token) (inner : List Token)
        → IsSign (unary_sign x) t → unary_level ≤ level a → SpellsExpr a inner
        → SpellsExpr (e.Unary t.place x a) (t ∷ inner)
    binary : (x : Binary) (a b : Expr) (t : Token) (left right : List Token)
        → binds x ≤ level a → SpellsExpr a left → IsSign (binary_sign x) t → binds x < level b → SpellsExpr b right
        → SpellsExpr (e.Binary (place a) x a b) (left ++ t ∷ right)
    choice : (c a b : Expr) (t u : Token) (test left right : List Token)
        → 1 ≤ level c → SpellsExpr c test → IsSign s.Question t → SpellsExpr a left → IsSign s.Colon u → SpellsExpr b right
        → SpellsExpr (e.Choice (place c) c a b) (test ++ t ∷ (left ++ u ∷ right))

  -- [ expr { "," expr } ]
  pub data SpellsArgs : List Expr → List Token → Type 0 where
    no_args : SpellsArgs [] []
    args : (a : Expr) (args : List Expr) (first others : List Token)
        → SpellsExpr a first → SpellsMore args others → SpellsArgs (a ∷ args) (first ++ others)

  -- { "," expr }
  pub data SpellsMore : List Expr → List Token → Type 0 where
    no_more : SpellsMore [] []
    more : (a : Expr) (args : List Expr) (comma : Token) (first others : List Token)
        → IsSign s.Comma comma → SpellsExpr a first → SpellsMore args others → SpellsMore (a ∷ args) (comma ∷ (first ++ others))

  -- { "[" expr "]" }
  pub data SpellsSizes : List Expr → List Token → Type 0 where
    no_sizes : SpellsSizes [] []
    size : (a : Expr) (sizes : List Expr) (o c : Token) (inner others : List Token)
        → IsSign s.LeftBracket o → SpellsExpr a inner → IsSign s.RightBracket c → SpellsSizes sizes others
        → SpellsSizes (a ∷ sizes) (o ∷ (inner ++ c ∷ others))

  -- base
  pub data SpellsBase : Base → List Token → Type 0 where
    bool : (t : Token) → IsReserved r.Bool t → SpellsBase (b.Bool t.place) (t ∷ [])
    int : (t : Token) → IsReserved r.Int t → SpellsBase (b.Int t.place) (t ∷ [])
    int32 : (t : Token) → IsReserved r.Int32 t → SpellsBase (b.Int32 t.place) (t ∷ [])
    int64 : (t : Token) → IsReserved r.Int64 t → SpellsBase (b.Int64 t.place) (t ∷ [])
    wrap : (a : Expr) (t o c : Token) (inner : List Token)
        → IsReserved r.Wrap t → IsSign s.Less o → sum_level ≤ level a → SpellsExpr a inner → IsSign s.Greater c
        → SpellsBase (b.Wrap t.place a) (t ∷ o ∷ (inner ++ c ∷ []))
    clamp : (a : Expr) (t o c : Token) (inner : List Token)
        → IsReserved r.Clamp t → IsSign s.Less o → sum_level ≤ level a → SpellsExpr a inner → IsSign s.Greater c
        → SpellsBase (b.Clamp t.place a) (t ∷ o ∷ (inner ++ c ∷ []))

-- type = btype | path { "[" expr "]" }, btype = base { "[" expr "]" }
pub data SpellsType : TypeExpr → List Token → Type 0 where
  base : (b : Base) (sizes : List Expr) (front others : List Token)
      → SpellsBase b front → SpellsSizes sizes others → SpellsType (y.Base b sizes) (front ++ others)
  named : (q : Path) (sizes : List Expr) (front others : List Token)
      → SpellsPath q front → SpellsSizes sizes others → SpellsType (y.Named q sizes) (front ++ others)

-- arg = btype | expr
pub data SpellsArg : Arg → List Token → Type 0 where
  base : (b : Base) (sizes : List Expr) (front others : List Token)
      → SpellsBase b front → SpellsSizes sizes others → SpellsArg (g.Type b sizes) (front ++ others)
  value : (a : Expr) (tokens : List Token) → SpellsExpr a tokens → SpellsArg (g.Value a) tokens
