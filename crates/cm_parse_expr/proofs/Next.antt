-- What the next token is, and what it continues.
use Rattle.std.proofs.Common.{◌≡◌, ℕ, ◌<◌, ◌≤◌, Bool, true, false, List, [], ◌∷◌, Option, Some, None, refl, ap, ◌∙◌, lit≤, arith}
use Rattle.cm_base.specs.declared.place.Place.{Place}
use Rattle.cm_tree.specs.declared.token.Token.{Token}
use Rattle.cm_tree.specs.declared.token.TokenKind.{TokenKind}
use Rattle.cm_tree.specs.declared.token.TokenKind.TheVariants as k
use Rattle.cm_tree.specs.declared.sign.Sign.{Sign}
use Rattle.cm_tree.specs.declared.sign.Sign.TheVariants as s
use Rattle.cm_tree.specs.declared.operator.Unary.{Unary}
use Rattle.cm_tree.specs.declared.operator.Unary.TheVariants as u
use Rattle.cm_tree.specs.declared.operator.Binary.{Binary}
use Rattle.cm_tree.specs.declared.operator.Binary.TheVariants as o
use Rattle.cm_tree.specs.declared.expr.Expr.{Expr}
use Rattle.cm_tree.specs.declared.expr.Expr.TheVariants as e
use Rattle.cm_tree.specs.declared.expr.Base.TheBlock.{hidden-the_row-Expr-0, hidden-the_row-Expr-1}
use denote.Hole.Carrier.{hidden}
use Rattle.cm_tree.specs.declared.path.Path.{Path}
use Rattle.cm_tree.specs.Levels.{unary_sign, binary_sign, binds, ends_in_path}
use Rattle.cm_tree.specs.Spelling.{IsSign}
use Rattle.cm_tree.specs.ExprFaults.{Continues, operator as by_operator, choice as by_choice, field as by_field, index as by_index, call as by_call, name as by_name, Ends}
use Rattle.token_reader.specs.Parsers.{is_sign, sees, same_sign}
use Rattle.token_reader.proofs.Inverses.{seen, sign_same, sign_is}
use Rattle.cm_parse_expr.specs.Reading.{unary_of, operator_of, operator, colons}

-- ---- operators and their signs

pub unary_is : (x : Unary) → unary_of (k.Sign (unary_sign x)) ≡ Some x
unary_is u.Minus = refl
unary_is u.Not = refl
unary_is u.Complement = refl

pub unary_sign_of : (kind : TokenKind) (x : Unary) → unary_of kind ≡ Some x → kind ≡ k.Sign (unary_sign x)
unary_sign_of (k.Sign s.Minus) x is = let same : u.Minus ≡ x = cc in ap (λ (y : Unary). k.Sign (unary_sign y)) same
unary_sign_of (k.Sign s.Exclamation) x is = let same : u.Not ≡ x = cc in ap (λ (y : Unary). k.Sign (unary_sign y)) same
unary_sign_of (k.Sign s.Tilde) x is = let same : u.Complement ≡ x = cc in ap (λ (y : Unary). k.Sign (unary_sign y)) same
unary_sign_of _ x is = absurd cc

operator_is : (x : Binary) → operator_of (k.Sign (binary_sign x)) ≡ Some x
operator_is o.Or = refl
operator_is o.And = refl
operator_is o.BitOr = refl
operator_is o.BitXor = refl
operator_is o.BitAnd = refl
operator_is o.Equal = refl
operator_is o.NotEqual = refl
operator_is o.Less = refl
operator_is o.LessEqual = refl
operator_is o.Greater = refl
operator_is o.GreaterEqual = refl
operator_is o.ShiftLeft = refl
operator_is o.ShiftRight = refl
operator_is o.ShiftRightZero = refl
operator_is o.Add = refl
operator_is o.Subtract = refl
operator_is o.Multiply = refl
operator_is o.Divide = refl
operator_is o.Remainder = refl

pub operator_there : (x : Binary) (t : Token) (ts : List Token) → t.kind ≡ k.Sign (binary_sign x) → operator (t ∷ ts) ≡ Some x
unfolding operator
operator_there x t ts is = ap operator_of is ∙ operator_is x

pub operator_sign_of : (kind : TokenKind) (x : Binary) → operator_of kind ≡ Some x → kind ≡ k.Sign (binary_sign x)
operator_sign_of (k.Sign s.Or) x is = let same : o.Or ≡ x = cc in ap (λ (y : Binary). k.Sign (binary_sign y)) same
operator_sign_of (k.Sign s.And) x is = let same : o.And ≡ x = cc in ap (λ (y : Binary). k.Sign (binary_sign y)) same
operator_sign_of (k.Sign s.Bar) x is = let same : o.BitOr ≡ x = cc in ap (λ (y : Binary). k.Sign (binary_sign y)) same
operator_sign_of (k.Sign s.Caret) x is = let same : o.BitXor ≡ x = cc in ap (λ (y : Binary). k.Sign (binary_sign y)) same
operator_sign_of (k.Sign s.Ampersand) x is = let same : o.BitAnd ≡ x = cc in ap (λ (y : Binary). k.Sign (binary_sign y)) same
operator_sign_of (k.Sign s.Equal) x is = let same : o.Equal ≡ x = cc in ap (λ (y : Binary). k.Sign (binary_sign y)) same
operator_sign_of (k.Sign s.NotEqual) x is = let same : o.NotEqual ≡ x = cc in ap (λ (y : Binary). k.Sign (binary_sign y)) same
operator_sign_of (k.Sign s.Less) x is = let same : o.Less ≡ x = cc in ap (λ (y : Binary). k.Sign (binary_sign y)) same
operator_sign_of (k.Sign s.LessEqual) x is = let same : o.LessEqual ≡ x = cc in ap (λ (y : Binary). k.Sign (binary_sign y)) same
operator_sign_of (k.Sign s.Greater) x is = let same : o.Greater ≡ x = cc in ap (λ (y : Binary). k.Sign (binary_sign y)) same
operator_sign_of (k.Sign s.GreaterEqual) x is = let same : o.GreaterEqual ≡ x = cc in ap (λ (y : Binary). k.Sign (binary_sign y)) same
operator_sign_of (k.Sign s.ShiftLeft) x is = let same : o.ShiftLeft ≡ x = cc in ap (λ (y : Binary). k.Sign (binary_sign y)) same
operator_sign_of (k.Sign s.ShiftRight) x is = let same : o.ShiftRight ≡ x = cc in ap (λ (y : Binary). k.Sign (binary_sign y)) same
operator_sign_of (k.Sign s.ShiftRightZero) x is = let same : o.ShiftRightZero ≡ x = cc in ap (λ (y : Binary). k.Sign (binary_sign y)) same
operator_sign_of (k.Sign s.Plus) x is = let same : o.Add ≡ x = cc in ap (λ (y : Binary). k.Sign (binary_sign y)) same
operator_sign_of (k.Sign s.Minus) x is = let same : o.Subtract ≡ x = cc in ap (λ (y : Binary). k.Sign (binary_sign y)) same
operator_sign_of (k.Sign s.Star) x is = let same : o.Multiply ≡ x = cc in ap (λ (y : Binary). k.Sign (binary_sign y)) same
operator_sign_of (k.Sign s.Slash) x is = let same : o.Divide ≡ x = cc in ap (λ (y : Binary). k.Sign (binary_sign y)) same
operator_sign_of (k.Sign s.Percent) x is = let same : o.Remainder ≡ x = cc in ap (λ (y : Binary). k.Sign (binary_sign y)) same
operator_sign_of _ x is = absurd cc

-- ---- levels

pub binds_some : (x : Binary) → 1 ≤ binds x
binds_some o.Or = lit≤ tt
binds_some o.And = lit≤ tt
binds_some o.BitOr = lit≤ tt
binds_some o.BitXor = lit≤ tt
binds_some o.BitAnd = lit≤ tt
binds_some o.Equal = lit≤ tt
binds_some o.NotEqual = lit≤ tt
binds_some o.Less = lit≤ tt
binds_some o.LessEqual = lit≤ tt
binds_some o.Greater = lit≤ tt
binds_some o.GreaterEqual = lit≤ tt
binds_some o.ShiftLeft = lit≤ tt
binds_some o.ShiftRight = lit≤ tt
binds_some o.ShiftRightZero = lit≤ tt
binds_some o.Add = lit≤ tt
binds_some o.Subtract = lit≤ tt
binds_some o.Multiply = lit≤ tt
binds_some o.Divide = lit≤ tt
binds_some o.Remainder = lit≤ tt

pub binds_few : (x : Binary) → binds x ≤ 10
binds_few o.Or = lit≤ tt
binds_few o.And = lit≤ tt
binds_few o.BitOr = lit≤ tt
binds_few o.BitXor = lit≤ tt
binds_few o.BitAnd = lit≤ tt
binds_few o.Equal = lit≤ tt
binds_few o.NotEqual = lit≤ tt
binds_few o.Less = lit≤ tt
binds_few o.LessEqual = lit≤ tt
binds_few o.Greater = lit≤ tt
binds_few o.GreaterEqual = lit≤ tt
binds_few o.ShiftLeft = lit≤ tt
binds_few o.ShiftRight = lit≤ tt
binds_few o.ShiftRightZero = lit≤ tt
binds_few o.Add = lit≤ tt
binds_few o.Subtract = lit≤ tt
binds_few o.Multiply = lit≤ tt
binds_few o.Divide = lit≤ tt
binds_few o.Remainder = lit≤ tt

-- the level of an operator that may be there
abbrev pub binds_of : Option Binary → ℕ
binds_of None = 0
binds_of (Some x) = binds x

abbrev pub next_binds : List Token → ℕ
next_binds ts = binds_of (operator ts)

pub next_few : (x : Option Binary) → binds_of x ≤ 10
next_few None = lit≤ tt
next_few (Some x) = binds_few x

pub none_by : (x : Option Binary) → binds_of x < 1 → x ≡ None
none_by None lt = refl
none_by (Some x) lt = absurd (omega (arith, binds_some x))

-- ---- what the next token doesn't continue

-- the path at the end of the expression
pub record PathEnds (a : Expr) (ts : List Token) : Type 0 where
  pub no_call : ends_in_path a ≡ true → sees (is_sign s.LeftParenthesis) ts ≡ false
  pub no_name : ends_in_path a ≡ true → sees colons ts ≡ false

-- the operand at the end of the expression
pub record Settled (a : Expr) (ts : List Token) : Type 0 where
  pub no_dot : sees (is_sign s.Dot) ts ≡ false
  pub no_bracket : sees (is_sign s.LeftBracket) ts ≡ false
  pub path_ends : PathEnds a ts

-- the expression
pub record Closed (a : Expr) (ts : List Token) : Type 0 where
  pub no_operator : operator ts ≡ None
  pub no_choice : sees (is_sign s.Question) ts ≡ false
  pub settled : Settled a ts

-- another expression that ends in a path only where this one does
pub path_ends_as : (a b : Expr) (ts : List Token) → (ends_in_path b ≡ true → ends_in_path a ≡ true) → PathEnds a ts → PathEnds b ts
path_ends_as a b ts back p = record { no_call = λ is. p.no_call (back is); no_name = λ is. p.no_name (back is) }

pub settled_as : (a b : Expr) (ts : List Token) → (ends_in_path b ≡ true → ends_in_path a ≡ true) → Settled a ts → Settled b ts
settled_as a b ts back p = record { no_dot = p.no_dot; no_bracket = p.no_bracket; path_ends = path_ends_as a b ts back p.path_ends }

pub closed_as : (a b : Expr) (ts : List Token) → (ends_in_path b ≡ true → ends_in_path a ≡ true) → Closed a ts → Closed b ts
closed_as a b ts back p = record { no_operator = p.no_operator; no_choice = p.no_choice; settled = settled_as a b ts back p.settled }

pub ends_in_path-Name : (q : Path) → ends_in_path (e.Name q) ≡ true
unfolding ends_in_path
ends_in_path-Name q = refl

pub ends_in_path-Unary : (p : Place) (x : Unary) (a : Expr) → ends_in_path (e.Unary p x a) ≡ ends_in_path a
unfolding ends_in_path hidden-the_row-Expr-0 hidden-the_row-Expr-1 hidden
ends_in_path-Unary p x a = refl

pub ends_in_path-Binary : (p : Place) (x : Binary) (a b : Expr) → ends_in_path (e.Binary p x a b) ≡ ends_in_path b
unfolding ends_in_path hidden-the_row-Expr-0 hidden-the_row-Expr-1 hidden
ends_in_path-Binary p x a b = refl

pub ends_in_path-Choice : (p : Place) (c a b : Expr) → ends_in_path (e.Choice p c a b) ≡ ends_in_path b
unfolding ends_in_path hidden-the_row-Expr-0 hidden-the_row-Expr-1 hidden
ends_in_path-Choice p c a b = refl

-- where an expression doesn't end in a path
pub no_path : (a : Expr) (ts : List Token) → ends_in_path a ≡ false → PathEnds a ts
no_path a ts is = record { no_call = λ no. absurd cc; no_name = λ no. absurd cc }

-- ---- tokens that end any expression

abbrev pub closing : Sign → Bool
closing s.RightParenthesis = true
closing s.RightBracket = true
closing s.RightBrace = true
closing s.LeftBrace = true
closing s.Comma = true
closing s.Semicolon = true
closing s.Colon = true
closing _ = false

closes_by : (x : Sign) (t : Token) (ts : List Token) (a : Expr) → t.kind ≡ k.Sign x → operator_of (k.Sign x) ≡ None → is_sign s.Question (k.Sign x) ≡ false → is_sign s.Dot (k.Sign x) ≡ false
    → is_sign s.LeftBracket (k.Sign x) ≡ false → is_sign s.LeftParenthesis (k.Sign x) ≡ false → is_sign s.DoubleColon (k.Sign x) ≡ false → Closed a (t ∷ ts)
unfolding operator
closes_by x t ts a is h0 h1 h2 h3 h4 h5 = record {
  no_operator = ap operator_of is ∙ h0;
  no_choice = seen _ t ts _ is false h1;
  settled = record {
    no_dot = seen _ t ts _ is false h2;
    no_bracket = seen _ t ts _ is false h3;
    path_ends = record { no_call = λ _. seen _ t ts _ is false h4; no_name = λ _. seen _ t ts _ is false h5 };
  };
}

-- such a token continues no expression
pub closes : (x : Sign) → closing x ≡ true → (t : Token) (ts : List Token) (a : Expr) → IsSign x t → Closed a (t ∷ ts)
unfolding same_sign
closes s.RightParenthesis is t ts a at = closes_by s.RightParenthesis t ts a at.kind refl refl refl refl refl refl
closes s.RightBracket is t ts a at = closes_by s.RightBracket t ts a at.kind refl refl refl refl refl refl
closes s.RightBrace is t ts a at = closes_by s.RightBrace t ts a at.kind refl refl refl refl refl refl
closes s.LeftBrace is t ts a at = closes_by s.LeftBrace t ts a at.kind refl refl refl refl refl refl
closes s.Comma is t ts a at = closes_by s.Comma t ts a at.kind refl refl refl refl refl refl
closes s.Semicolon is t ts a at = closes_by s.Semicolon t ts a at.kind refl refl refl refl refl refl
closes s.Colon is t ts a at = closes_by s.Colon t ts a at.kind refl refl refl refl refl refl
closes _ is t ts a at = absurd cc

settles_by : (x : Sign) (t : Token) (ts : List Token) (a : Expr) → t.kind ≡ k.Sign x → is_sign s.Dot (k.Sign x) ≡ false
    → is_sign s.LeftBracket (k.Sign x) ≡ false → is_sign s.LeftParenthesis (k.Sign x) ≡ false → is_sign s.DoubleColon (k.Sign x) ≡ false → Settled a (t ∷ ts)
settles_by x t ts a is h2 h3 h4 h5 = record {
  no_dot = seen _ t ts _ is false h2;
  no_bracket = seen _ t ts _ is false h3;
  path_ends = record { no_call = λ _. seen _ t ts _ is false h4; no_name = λ _. seen _ t ts _ is false h5 };
}

-- an operator between operands settles the one before it
pub operator_settles : (x : Binary) (t : Token) (ts : List Token) (a : Expr) → IsSign (binary_sign x) t → Settled a (t ∷ ts)
unfolding same_sign
operator_settles o.Or t ts a at = settles_by _ t ts a at.kind refl refl refl refl
operator_settles o.And t ts a at = settles_by _ t ts a at.kind refl refl refl refl
operator_settles o.BitOr t ts a at = settles_by _ t ts a at.kind refl refl refl refl
operator_settles o.BitXor t ts a at = settles_by _ t ts a at.kind refl refl refl refl
operator_settles o.BitAnd t ts a at = settles_by _ t ts a at.kind refl refl refl refl
operator_settles o.Equal t ts a at = settles_by _ t ts a at.kind refl refl refl refl
operator_settles o.NotEqual t ts a at = settles_by _ t ts a at.kind refl refl refl refl
operator_settles o.Less t ts a at = settles_by _ t ts a at.kind refl refl refl refl
operator_settles o.LessEqual t ts a at = settles_by _ t ts a at.kind refl refl refl refl
operator_settles o.Greater t ts a at = settles_by _ t ts a at.kind refl refl refl refl
operator_settles o.GreaterEqual t ts a at = settles_by _ t ts a at.kind refl refl refl refl
operator_settles o.ShiftLeft t ts a at = settles_by _ t ts a at.kind refl refl refl refl
operator_settles o.ShiftRight t ts a at = settles_by _ t ts a at.kind refl refl refl refl
operator_settles o.ShiftRightZero t ts a at = settles_by _ t ts a at.kind refl refl refl refl
operator_settles o.Add t ts a at = settles_by _ t ts a at.kind refl refl refl refl
operator_settles o.Subtract t ts a at = settles_by _ t ts a at.kind refl refl refl refl
operator_settles o.Multiply t ts a at = settles_by _ t ts a at.kind refl refl refl refl
operator_settles o.Divide t ts a at = settles_by _ t ts a at.kind refl refl refl refl
operator_settles o.Remainder t ts a at = settles_by _ t ts a at.kind refl refl refl refl

pub question_settles : (t : Token) (ts : List Token) (a : Expr) → IsSign s.Question t → Settled a (t ∷ ts)
unfolding same_sign
question_settles t ts a at = settles_by _ t ts a at.kind refl refl refl refl

pub question_no_operator : (t : Token) (ts : List Token) → IsSign s.Question t → operator (t ∷ ts) ≡ None
unfolding operator
question_no_operator t ts at = ap operator_of at.kind

-- a step settles the path before it
pub dot_ends_path : (t : Token) (ts : List Token) (a : Expr) → IsSign s.Dot t → PathEnds a (t ∷ ts)
unfolding same_sign
dot_ends_path t ts a at = record { no_call = λ _. seen _ t ts _ at.kind false refl; no_name = λ _. seen _ t ts _ at.kind false refl }

pub bracket_ends_path : (t : Token) (ts : List Token) (a : Expr) → IsSign s.LeftBracket t → PathEnds a (t ∷ ts)
unfolding same_sign
bracket_ends_path t ts a at = record { no_call = λ _. seen _ t ts _ at.kind false refl; no_name = λ _. seen _ t ts _ at.kind false refl }

pub bracket_no_dot : (t : Token) (ts : List Token) → IsSign s.LeftBracket t → sees (is_sign s.Dot) (t ∷ ts) ≡ false
unfolding same_sign
bracket_no_dot t ts at = seen _ t ts _ at.kind false refl

-- the token is the sign that is looked for
pub sign_seen : (x : Sign) (t : Token) (ts : List Token) → IsSign x t → sees (is_sign x) (t ∷ ts) ≡ true
sign_seen x t ts at = seen (is_sign x) t ts (k.Sign x) at.kind true (sign_same x)

-- ---- the same, as the grammar says it

not_seen : (x : Sign) (t : Token) (ts : List Token) (b : Bool) → sees (is_sign x) (t ∷ ts) ≡ b → (IsSign x t → ⊥) → b ≡ false
unfolding sees
not_seen x t ts true is never = absurd (never (record { kind = sign_is x t.kind is }))
not_seen x t ts false is never = refl

unseen : (x : Sign) (t : Token) (ts : List Token) → (IsSign x t → ⊥) → sees (is_sign x) (t ∷ ts) ≡ false
unseen x t ts never = let b = not_seen x t ts (sees (is_sign x) (t ∷ ts)) refl never in b

no_operator_by : (t : Token) (ts : List Token) (x : Option Binary) → operator (t ∷ ts) ≡ x → ((y : Binary) → IsSign (binary_sign y) t → ⊥) → x ≡ None
unfolding operator
no_operator_by t ts None is never = refl
no_operator_by t ts (Some y) is never = absurd (never y (record { kind = operator_sign_of t.kind y is }))

pub closed_of : (a : Expr) (ts : List Token) → Ends a ts → Closed a ts
unfolding operator sees
closed_of a [] ends = record {
  no_operator = refl;
  no_choice = refl;
  settled = record { no_dot = refl; no_bracket = refl; path_ends = record { no_call = λ _. refl; no_name = λ _. refl } };
}
closed_of a (t ∷ ts) ends = record {
  no_operator = no_operator_by t ts (operator (t ∷ ts)) refl (λ y at. ends (by_operator y at));
  no_choice = unseen s.Question t ts (λ at. ends (by_choice at));
  settled = record {
    no_dot = unseen s.Dot t ts (λ at. ends (by_field at));
    no_bracket = unseen s.LeftBracket t ts (λ at. ends (by_index at));
    path_ends = record { no_call = λ is. unseen s.LeftParenthesis t ts (λ at. ends (by_call is at)); no_name = λ is. unseen s.DoubleColon t ts (λ at. ends (by_name is at)) };
  };
}

-- no token is seen and not seen
clash : (x : Sign) (t : Token) (ts : List Token) → sees (is_sign x) (t ∷ ts) ≡ false → IsSign x t → ⊥
clash x t ts never at = let there = sign_seen x t ts at in cc

continues : (a : Expr) (t : Token) (ts : List Token) → Closed a (t ∷ ts) → Continues a t → ⊥
continues a t ts c (by_operator y at) = let never = c.no_operator in let there = operator_there y t ts at.kind in cc
continues a t ts c (by_choice at) = clash s.Question t ts c.no_choice at
continues a t ts c (by_field at) = clash s.Dot t ts c.settled.no_dot at
continues a t ts c (by_index at) = clash s.LeftBracket t ts c.settled.no_bracket at
continues a t ts c (by_call is at) = clash s.LeftParenthesis t ts (c.settled.path_ends.no_call is) at
continues a t ts c (by_name is at) = clash s.DoubleColon t ts (c.settled.path_ends.no_name is) at

pub ends_of : (a : Expr) (ts : List Token) → Closed a ts → Ends a ts
ends_of a [] c = tt
ends_of a (t ∷ ts) c = continues a t ts c
