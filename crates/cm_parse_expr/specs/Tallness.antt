-- Parts of an expression that know their height. It is kept in 32 bits and stands still at their end.
use Rattle.std.specs.Prelude.{ℕ, ◌≡◌, min, List}
use Rattle.cm_tree.specs.declared.expr.Expr.{Expr}
use Rattle.cm_tree.specs.declared.expr.Base.{Base}
use Rattle.cm_tree.specs.Heights.{height, tallest, base_height, sized}
use Rattle.cm_parse_expr.specs.declared.tall.Tall.TheInside as expr
use Rattle.cm_parse_expr.specs.declared.exprs.Exprs.TheInside as list
use Rattle.cm_parse_expr.specs.declared.base.TallBase.TheInside as base
use Rattle.cm_parse_expr.specs.declared.base.SizedBase.TheInside as sizes

abbrev pub kept : ℕ → ℕ
kept n = min n 4294967295

abbrev pub tree_of : expr.Inside → Expr
tree_of t = t.tree

abbrev pub IsTall : expr.Inside → Type 0
IsTall t = t.height ≡ kept (height t.tree)

abbrev pub list_of : list.Inside → List Expr
list_of t = t.list

abbrev pub AreTall : list.Inside → Type 0
AreTall t = t.height ≡ kept (tallest t.list)

abbrev pub base_of : base.Inside → Base
base_of t = t.base

abbrev pub IsTallBase : base.Inside → Type 0
IsTallBase t = t.height ≡ kept (base_height t.base)

abbrev pub sized_of : sizes.Inside → Base × List Expr
sized_of t = (t.base, t.sizes)

abbrev pub IsTallSized : sizes.Inside → Type 0
IsTallSized t = t.height ≡ kept (sized t.base t.sizes)
