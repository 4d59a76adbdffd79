-- Expressions and types as parsers on token lists, read from left to right. A number is how high what is read may be.
use Rattle.std.specs.Prelude.{ℕ, zero, suc, ◌+◌, Bool, true, false, if◌then◌else◌, nat_lt, nat_le, List, [], ◌∷◌, Option, Some, None, Ok}
use Rattle.cm_base.specs.declared.place.Place.{Place}
use Rattle.cm_tree.specs.declared.token.Token.{Token}
use Rattle.cm_tree.specs.declared.token.TokenKind.{TokenKind}
use Rattle.cm_tree.specs.declared.token.TokenKind.TheVariants as k
use Rattle.cm_tree.specs.declared.sign.Sign.TheVariants as s
use Rattle.cm_tree.specs.declared.reserved.Reserved.TheVariants as w
use Rattle.cm_tree.specs.declared.operator.Unary.{Unary}
use Rattle.cm_tree.specs.declared.operator.Unary.TheVariants as u
use Rattle.cm_tree.specs.declared.operator.Binary.{Binary}
use Rattle.cm_tree.specs.declared.operator.Binary.TheVariants as o
use Rattle.cm_tree.specs.declared.path.Path.{Path}
use Rattle.cm_tree.specs.declared.expr.Expr.{Expr}
use Rattle.cm_tree.specs.declared.expr.Expr.TheVariants as e
use Rattle.cm_tree.specs.declared.expr.Base.{Base}
use Rattle.cm_tree.specs.declared.expr.Base.TheVariants as b
use Rattle.cm_tree.specs.declared.type_expr.TypeExpr.{TypeExpr}
use Rattle.cm_tree.specs.declared.type_expr.TypeExpr.TheVariants as y
use Rattle.cm_tree.specs.declared.type_expr.Arg.{Arg}
use Rattle.cm_tree.specs.declared.type_expr.Arg.TheVariants as g
use Rattle.cm_tree.specs.Heights.{height, sized}
use Rattle.cm_tree.specs.Levels.{binds, place, sum_level, unary_level}
use Rattle.token_reader.specs.Parsers.{Parser, ◌>>=◌, ◌>>◌, ◌<$>◌, pure, refuse, look, skip, see, expect, first, is_sign, Turn, more, done, repeat}
use Rattle.token_reader.specs.Lists.{name, while_sees, separated}

-- ---- the next token

abbrev pub unary_of : TokenKind → Option Unary
unary_of (k.Sign s.Minus) = Some u.Minus
unary_of (k.Sign s.Exclamation) = Some u.Not
unary_of (k.Sign s.Tilde) = Some u.Complement
unary_of _ = None

abbrev pub operator_of : TokenKind → Option Binary
operator_of (k.Sign s.Or) = Some o.Or
operator_of (k.Sign s.And) = Some o.And
operator_of (k.Sign s.Bar) = Some o.BitOr
operator_of (k.Sign s.Caret) = Some o.BitXor
operator_of (k.Sign s.Ampersand) = Some o.BitAnd
operator_of (k.Sign s.Equal) = Some o.Equal
operator_of (k.Sign s.NotEqual) = Some o.NotEqual
operator_of (k.Sign s.Less) = Some o.Less
operator_of (k.Sign s.LessEqual) = Some o.LessEqual
operator_of (k.Sign s.Greater) = Some o.Greater
operator_of (k.Sign s.GreaterEqual) = Some o.GreaterEqual
operator_of (k.Sign s.ShiftLeft) = Some o.ShiftLeft
operator_of (k.Sign s.ShiftRight) = Some o.ShiftRight
operator_of (k.Sign s.ShiftRightZero) = Some o.ShiftRightZero
operator_of (k.Sign s.Plus) = Some o.Add
operator_of (k.Sign s.Minus) = Some o.Subtract
operator_of (k.Sign s.Star) = Some o.Multiply
operator_of (k.Sign s.Slash) = Some o.Divide
operator_of (k.Sign s.Percent) = Some o.Remainder
operator_of _ = None

abbrev pub operator_at : Option Token → Option Binary
operator_at None = None
operator_at (Some t) = operator_of t.kind

-- the operator that the next token is
unfoldable pub operator : List Token → Option Binary
operator ts = operator_at (first ts)

unfoldable pub see_operator : Parser (Option Binary)
see_operator = λ ts. Ok (operator ts, ts)

-- the reserved words that begin a base type
abbrev pub begins_base : TokenKind → Bool
begins_base (k.Reserved w.Bool) = true
begins_base (k.Reserved w.Int) = true
begins_base (k.Reserved w.Int32) = true
begins_base (k.Reserved w.Int64) = true
begins_base (k.Reserved w.Wrap) = true
begins_base (k.Reserved w.Clamp) = true
begins_base _ = false

-- ---- paths

abbrev pub colons : TokenKind → Bool
colons = is_sign s.DoubleColon

unfoldable pub further_name : Parser (List ℕ)
further_name = do
  expect colons
  found ← name
  pure found.1

unfoldable pub path : Parser Path
path = do
  found ← name
  names ← while_sees colons further_name (found.1 ∷ [])
  pure (record { place = found.0; names = names })

-- a turn that goes on with this expression
abbrev pub again : Expr → Turn Expr Expr
again left = more left

-- ---- parts of an expression, with those of a height that is one less

module _ (expr : Parser Expr) (binary : ℕ → Parser Expr) where
  -- "[" expr "]"
  unfoldable pub bracketed : Parser Expr
  bracketed = do
    expect (is_sign s.LeftBracket)
    found ← expr
    expect (is_sign s.RightBracket)
    pure found

  -- { "[" expr "]" }
  unfoldable pub sizes : Parser (List Expr)
  sizes = while_sees (is_sign s.LeftBracket) bracketed []

  abbrev pub args_unless : Bool → Parser (List Expr)
  args_unless is_empty = if is_empty then pure [] else separated (is_sign s.Comma) expr

  -- "(" [ expr { "," expr } ] ")"
  unfoldable pub args : Parser (List Expr)
  args = do
    expect (is_sign s.LeftParenthesis)
    is_empty ← see (is_sign s.RightParenthesis)
    found ← args_unless is_empty
    expect (is_sign s.RightParenthesis)
    pure found

  -- "<" sum ">"
  unfoldable pub limit : Parser Expr
  limit = do
    expect (is_sign s.Less)
    found ← binary sum_level
    expect (is_sign s.Greater)
    pure found

  abbrev pub base_by : Place → TokenKind → Parser Base
  base_by p (k.Reserved w.Bool) = skip >> pure (b.Bool p)
  base_by p (k.Reserved w.Int) = skip >> pure (b.Int p)
  base_by p (k.Reserved w.Int32) = skip >> pure (b.Int32 p)
  base_by p (k.Reserved w.Int64) = skip >> pure (b.Int64 p)
  base_by p (k.Reserved w.Wrap) = skip >> b.Wrap p <$> limit
  base_by p (k.Reserved w.Clamp) = skip >> b.Clamp p <$> limit
  base_by p _ = refuse

  abbrev pub base_at : Option Token → Parser Base
  base_at None = refuse
  base_at (Some t) = base_by t.place t.kind

  unfoldable pub base : Parser Base
  base = look >>= base_at

  -- btype
  unfoldable pub sized_base : Parser (Base × List Expr)
  sized_base = do
    found ← base
    all ← sizes
    pure (found, all)

  -- ---- atoms and their steps

  -- the values after a base type
  abbrev pub construct_of : ℕ → Base × List Expr → Parser Expr
  construct_of room ty = if nat_le room (sized ty.0 ty.1) then refuse else e.Construct ty.0 ty.1 <$> args

  unfoldable pub construct : ℕ → Parser Expr
  construct room = sized_base >>= construct_of room

  abbrev pub call_if : ℕ → Path → Bool → Parser Expr
  call_if room q is_call = if is_call then (if nat_le room 1 then refuse else e.Call q <$> args) else pure (e.Name q)

  unfoldable pub named : ℕ → Parser Expr
  named room = do
    q ← path
    is_call ← see (is_sign s.LeftParenthesis)
    call_if room q is_call

  unfoldable pub paren : Place → Parser Expr
  paren p = do
    inner ← expr
    expect (is_sign s.RightParenthesis)
    pure (e.Paren p inner)

  abbrev pub atom_by : ℕ → Place → TokenKind → Parser Expr
  atom_by room p (k.Number v wide) = skip >> pure (e.Number p v wide)
  atom_by room p (k.Reserved w.True) = skip >> pure (e.Truth p true)
  atom_by room p (k.Reserved w.False) = skip >> pure (e.Truth p false)
  atom_by room p (k.Reserved w.Bool) = construct room
  atom_by room p (k.Reserved w.Int) = construct room
  atom_by room p (k.Reserved w.Int32) = construct room
  atom_by room p (k.Reserved w.Int64) = construct room
  atom_by room p (k.Reserved w.Wrap) = construct room
  atom_by room p (k.Reserved w.Clamp) = construct room
  atom_by room p (k.Word text) = named room
  atom_by room p (k.Sign s.LeftParenthesis) = skip >> paren p
  atom_by room p _ = refuse

  abbrev pub atom_at : ℕ → Option Token → Parser Expr
  atom_at room None = refuse
  atom_at room (Some t) = atom_by room t.place t.kind

  unfoldable pub atom : ℕ → Parser Expr
  atom room = look >>= atom_at room

  -- "." NAME
  unfoldable pub field : Expr → Parser Expr
  field left = do
    expect (is_sign s.Dot)
    found ← name
    pure (e.Field (place left) left (record { place = found.0; text = found.1 }))

  -- "[" expr "]"
  unfoldable pub index : Expr → Parser Expr
  index left = do
    i ← bracketed
    pure (e.Index (place left) left i)

  abbrev pub index_if : ℕ → Expr → Bool → Parser (Turn Expr Expr)
  index_if room left is_index = if is_index then (if nat_le room (height left) then refuse else again <$> index left) else pure (done left)

  abbrev pub field_if : ℕ → Expr → Bool → Parser (Turn Expr Expr)
  field_if room left is_field =
      if is_field then (if nat_le room (height left) then refuse else again <$> field left) else (see (is_sign s.LeftBracket) >>= index_if room left)

  -- one more step, if the next token begins one
  unfoldable pub step : ℕ → Expr → Parser (Turn Expr Expr)
  step room left = see (is_sign s.Dot) >>= field_if room left

  unfoldable pub steps : ℕ → Expr → Parser Expr
  steps room = repeat (step room)

  unfoldable pub post : ℕ → Parser Expr
  post room = atom room >>= steps room

  -- ---- operators

  abbrev pub operand_by : ℕ → Place → Option Unary → Parser Expr
  operand_by room p None = post room
  operand_by room p (Some x) = skip >> e.Unary p x <$> binary unary_level

  abbrev pub operand_at : ℕ → Option Token → Parser Expr
  operand_at room None = refuse
  operand_at room (Some t) = operand_by room t.place (unary_of t.kind)

  unfoldable pub operand : ℕ → Parser Expr
  operand room = look >>= operand_at room

  -- one more operator, if the next token is one that binds tightly enough
  abbrev pub turn_by : ℕ → ℕ → Expr → Option Binary → Parser (Turn Expr Expr)
  turn_by room least left None = pure (done left)
  turn_by room least left (Some x) =
      if nat_lt (binds x) least then pure (done left) else (if nat_le room (height left) then refuse else
      (skip >> (λ right. more (e.Binary (place left) x left right)) <$> binary (binds x + 1)))

  unfoldable pub turn : ℕ → ℕ → Expr → Parser (Turn Expr Expr)
  turn room least left = see_operator >>= turn_by room least left

  unfoldable pub climb : ℕ → ℕ → Expr → Parser Expr
  climb room least = repeat (turn room least)

  unfoldable pub operation : ℕ → ℕ → Parser Expr
  operation room least = operand room >>= climb room least

  unfoldable pub choice : Expr → Parser Expr
  choice test = do
    expect (is_sign s.Question)
    left ← expr
    expect (is_sign s.Colon)
    right ← expr
    pure (e.Choice (place test) test left right)

  abbrev pub tail_if : ℕ → Expr → Bool → Parser Expr
  tail_if room left is_choice = if is_choice then (if nat_le room (height left) then refuse else choice left) else pure left

  unfoldable pub tail : ℕ → Expr → Parser Expr
  tail room left = see (is_sign s.Question) >>= tail_if room left

  -- ---- types

  abbrev pub named_type : Parser TypeExpr
  named_type = do
    q ← path
    all ← sizes
    pure (y.Named q all)

  abbrev pub base_type : Parser TypeExpr
  base_type = (λ ty. y.Base ty.0 ty.1) <$> sized_base

  abbrev pub type_if : Bool → Parser TypeExpr
  type_if is_base = if is_base then base_type else named_type

  unfoldable pub type_one : Parser TypeExpr
  type_one = see begins_base >>= type_if

  -- what follows a base type in an argument: nothing, or the values and the rest of an expression
  abbrev pub value_if : ℕ → Base × List Expr → Bool → Parser Arg
  value_if room ty is_value =
      if is_value then g.Value <$> (construct_of room ty >>= steps room >>= climb room 1 >>= tail room) else pure (g.Type ty.0 ty.1)

  unfoldable pub base_arg : ℕ → Parser Arg
  base_arg room = do
    ty ← sized_base
    is_value ← see (is_sign s.LeftParenthesis)
    value_if room ty is_value

  abbrev pub arg_if : ℕ → Bool → Parser Arg
  arg_if room is_base = if is_base then base_arg room else g.Value <$> (operation room 1 >>= tail room)

  unfoldable pub arg_one : ℕ → Parser Arg
  arg_one room = see begins_base >>= arg_if room

-- ---- by height

unfoldable mutual
  -- operators that bind at least so tightly, no higher than the first number
  pub binary : ℕ → ℕ → Parser Expr
  binary zero least = refuse
  binary (suc n) least = operation (expr n) (binary n) (suc n) least

  pub expr : ℕ → Parser Expr
  expr zero = refuse
  expr (suc n) = operation (expr n) (binary n) (suc n) 1 >>= tail (expr n) (binary n) (suc n)

unfoldable pub type_expr : ℕ → Parser TypeExpr
type_expr zero = refuse
type_expr (suc n) = type_one (expr n) (binary n)

unfoldable pub arg : ℕ → Parser Arg
arg zero = refuse
arg (suc n) = arg_one (expr n) (binary n) (suc n)
