-- How tightly an expression holds together: docs/LANGUAGE.md, "Expressions". An operator's operands bind at least as
-- tightly as it does, and of two operators at one level the left one comes first.
use Rattle.std.specs.Prelude.{ℕ, Bool, true, false}
use Rattle.cm_base.specs.declared.place.Place.{Place}
use Rattle.cm_tree.specs.declared.sign.Sign.{Sign}
use Rattle.cm_tree.specs.declared.sign.Sign.TheVariants as s
use Rattle.cm_tree.specs.declared.operator.Unary.{Unary}
use Rattle.cm_tree.specs.declared.operator.Unary.TheVariants as u
use Rattle.cm_tree.specs.declared.operator.Binary.{Binary}
use Rattle.cm_tree.specs.declared.operator.Binary.TheVariants as o
use Rattle.cm_tree.specs.declared.expr.Expr.{Expr, end_of-Expr, more_of-Expr}
use Rattle.cm_tree.specs.declared.expr.Base.{Base}
use Rattle.cm_tree.specs.declared.expr.Expr.TheVariants as e
use Rattle.cm_tree.specs.declared.expr.Base.TheVariants as b

abbrev pub unary_sign : Unary → Sign
unary_sign u.Minus = s.Minus
unary_sign u.Not = s.Exclamation
unary_sign u.Complement = s.Tilde

abbrev pub binary_sign : Binary → Sign
binary_sign o.Or = s.Or
binary_sign o.And = s.And
binary_sign o.BitOr = s.Bar
binary_sign o.BitXor = s.Caret
binary_sign o.BitAnd = s.Ampersand
binary_sign o.Equal = s.Equal
binary_sign o.NotEqual = s.NotEqual
binary_sign o.Less = s.Less
binary_sign o.LessEqual = s.LessEqual
binary_sign o.Greater = s.Greater
binary_sign o.GreaterEqual = s.GreaterEqual
binary_sign o.ShiftLeft = s.ShiftLeft
binary_sign o.ShiftRight = s.ShiftRight
binary_sign o.ShiftRightZero = s.ShiftRightZero
binary_sign o.Add = s.Plus
binary_sign o.Subtract = s.Minus
binary_sign o.Multiply = s.Star
binary_sign o.Divide = s.Slash
binary_sign o.Remainder = s.Percent

-- the level of an operator, from the loosest
abbrev pub binds : Binary → ℕ
binds o.Or = 1
binds o.And = 2
binds o.BitOr = 3
binds o.BitXor = 4
binds o.BitAnd = 5
binds o.Equal = 6
binds o.NotEqual = 6
binds o.Less = 7
binds o.LessEqual = 7
binds o.Greater = 7
binds o.GreaterEqual = 7
binds o.ShiftLeft = 8
binds o.ShiftRight = 8
binds o.ShiftRightZero = 8
binds o.Add = 9
binds o.Subtract = 9
binds o.Multiply = 10
binds o.Divide = 10
binds o.Remainder = 10

-- of an expression: 0 for a choice, 11 for an operator before its operand, 12 for an atom with its steps
abbrev pub level : Expr → ℕ
level (e.Number p v w) = 12
level (e.Truth p t) = 12
level (e.Name q) = 12
level (e.Call' q h args) = 12
level (e.Construct' b h sizes i args) = 12
level (e.Paren' p h a) = 12
level (e.Field' p h a w) = 12
level (e.Index' p h a i x) = 12
level (e.Unary' p o h a) = 11
level (e.Binary' p o h a i x) = binds o
level (e.Choice' p h c i a j x) = 0

-- the levels by name: of `sum`, of `unary` and of `post`
abbrev pub sum_level : ℕ
sum_level = 9

abbrev pub unary_level : ℕ
unary_level = 11

abbrev pub post_level : ℕ
post_level = 12

abbrev pub base_place : Base → Place
base_place (b.Bool p) = p
base_place (b.Int p) = p
base_place (b.Int32 p) = p
base_place (b.Int64 p) = p
base_place (b.Wrap' p h a) = p
base_place (b.Clamp' p h a) = p

-- the place of an expression's first token
abbrev pub place : Expr → Place
place (e.Number p v w) = p
place (e.Truth p t) = p
place (e.Name q) = q.place
place (e.Call' q h args) = q.place
place (e.Construct' b h sizes i args) = base_place b
place (e.Paren' p h a) = p
place (e.Field' p h a w) = p
place (e.Index' p h a i x) = p
place (e.Unary' p o h a) = p
place (e.Binary' p o h a i x) = p
place (e.Choice' p h c i a j x) = p

-- it ends in an atom that is a path, which `(` and `::` continue
unfoldable pub ends_in_path : Expr → Bool
ends_in_path (e.Number p v w) = false
ends_in_path (e.Truth p t) = false
ends_in_path (e.Name q) = true
ends_in_path (e.Call' q h args) = false
ends_in_path (e.Construct' b h sizes i args) = false
ends_in_path (e.Paren' p h a) = false
ends_in_path (e.Field' p h a w) = false
ends_in_path (e.Index' p h a i x) = false
ends_in_path (e.Unary' p o h (more_of-Expr a end_of-Expr)) = ends_in_path a
ends_in_path (e.Binary' p o h a i (more_of-Expr x end_of-Expr)) = ends_in_path x
ends_in_path (e.Choice' p h c i a j (more_of-Expr x end_of-Expr)) = ends_in_path x
