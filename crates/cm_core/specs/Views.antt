-- Which tree each expression and statement of `src/` is, a rule for each of its forms that has parts.
use Rattle.std.specs.Prelude.{ℕ, ℤ, Bool, ◌≡◌, refl, List, [], ◌∷◌, Option}
use Rattle.std.proofs.Common.{ap}
use Rattle.cm_base.specs.declared.host.Scalar.{Scalar}
use Rattle.cm_base.specs.declared.place.Place.{Place}
use Rattle.cm_core.specs.declared.core_type.CoreType.{CoreType}
use Rattle.cm_core.specs.declared.operator.UnaryOp.{UnaryOp}
use Rattle.cm_core.specs.declared.operator.BinaryOp.{BinaryOp}
use Rattle.cm_core.specs.declared.operator.LogicOp.{LogicOp}
use Rattle.cm_core.specs.declared.operator.CountOp.{CountOp}
use Rattle.cm_core.specs.declared.expr.CoreExpr.{CoreExpr}
use Rattle.cm_core.specs.declared.expr.CoreExpr.TheVariants as e
use Rattle.cm_core.specs.declared.expr.CoreExpr.TheBlock.{hidden-the_row-CoreExpr-0, hidden-the_row-CoreExpr-1}
use Rattle.cm_core.specs.declared.stmt.CoreStmt.{CoreStmt}
use Rattle.cm_core.specs.declared.stmt.CoreStmt.TheVariants as s
use Rattle.cm_core.specs.declared.stmt.CoreStmt.TheBlock.{hidden-the_row-CoreStmt-0, hidden-the_row-CoreStmt-1}
use Rattle.cm_core.specs.declared.stmt.Declared.{Declared}
use denote.Hole.Carrier.{hidden}
use Rattle.cm_core.specs.Code.{Expr, Number, Truth, Variable, Input, Constant, Field, Index, Call, Construct, Convert, Unary, Binary, Logic, Choose, With, Stmt, Nothing, Empty, Block, Locals, Assign, Update, Count, Perform, If, Loop, Times, While, Each, For, Break, Continue, Advance, Write, Stmts, End, More, expr_of, expr_row, exprs_of, locals_of, test_of, return_of, stmt_of, stmt_row}

-- ---- expressions

pub expr_of-Number : (value : ℤ) (wide : Bool) → expr_of (e.Number value wide) ≡ Number value wide
unfolding expr_of hidden-the_row-CoreExpr-0 hidden-the_row-CoreExpr-1 hidden
expr_of-Number value wide = refl

pub expr_of-Truth : (value : Bool) → expr_of (e.Truth value) ≡ Truth value
unfolding expr_of hidden-the_row-CoreExpr-0 hidden-the_row-CoreExpr-1 hidden
expr_of-Truth value = refl

pub expr_of-Variable : (x : ℕ) → expr_of (e.Variable x) ≡ Variable x
unfolding expr_of hidden-the_row-CoreExpr-0 hidden-the_row-CoreExpr-1 hidden
expr_of-Variable x = refl

pub expr_of-Input : (n : ℕ) → expr_of (e.Input n) ≡ Input n
unfolding expr_of hidden-the_row-CoreExpr-0 hidden-the_row-CoreExpr-1 hidden
expr_of-Input n = refl

pub expr_of-Constant : (c : ℕ) → expr_of (e.Constant c) ≡ Constant c
unfolding expr_of hidden-the_row-CoreExpr-0 hidden-the_row-CoreExpr-1 hidden
expr_of-Constant c = refl

pub expr_of-Field : (a : CoreExpr) (k : ℕ) → expr_of (e.Field a k) ≡ Field (expr_of a) k
unfolding expr_of hidden-the_row-CoreExpr-0 hidden-the_row-CoreExpr-1 hidden
expr_of-Field a k = refl

pub expr_of-Index : (a i : CoreExpr) → expr_of (e.Index a i) ≡ Index (expr_of a) (expr_of i)
unfolding expr_of hidden-the_row-CoreExpr-0 hidden-the_row-CoreExpr-1 hidden
expr_of-Index a i = refl

pub expr_of-Convert : (kind : Scalar) (a : CoreExpr) → expr_of (e.Convert kind a) ≡ Convert kind (expr_of a)
unfolding expr_of hidden-the_row-CoreExpr-0 hidden-the_row-CoreExpr-1 hidden
expr_of-Convert kind a = refl

pub expr_of-Unary : (op : UnaryOp) (kind : Scalar) (a : CoreExpr) → expr_of (e.Unary op kind a) ≡ Unary op kind (expr_of a)
unfolding expr_of hidden-the_row-CoreExpr-0 hidden-the_row-CoreExpr-1 hidden
expr_of-Unary op kind a = refl

pub expr_of-Binary : (op : BinaryOp) (kind : Scalar) (a b : CoreExpr) → expr_of (e.Binary op kind a b) ≡ Binary op kind (expr_of a) (expr_of b)
unfolding expr_of hidden-the_row-CoreExpr-0 hidden-the_row-CoreExpr-1 hidden
expr_of-Binary op kind a b = refl

pub expr_of-Logic : (op : LogicOp) (a b : CoreExpr) → expr_of (e.Logic op a b) ≡ Logic op (expr_of a) (expr_of b)
unfolding expr_of hidden-the_row-CoreExpr-0 hidden-the_row-CoreExpr-1 hidden
expr_of-Logic op a b = refl

pub expr_of-Choose : (c a b : CoreExpr) → expr_of (e.Choose c a b) ≡ Choose (expr_of c) (expr_of a) (expr_of b)
unfolding expr_of hidden-the_row-CoreExpr-0 hidden-the_row-CoreExpr-1 hidden
expr_of-Choose c a b = refl

exprs_row : (f : ℕ) (all : List CoreExpr) → expr_of (e.Call f all) ≡ Call f (exprs_of all)
unfolding expr_of expr_row hidden-the_row-CoreExpr-0 hidden-the_row-CoreExpr-1 hidden
exprs_row f [] = refl
exprs_row f (a ∷ all) = ap (grown a) (exprs_row f all)
  where
    grown : CoreExpr → Expr → Expr
    grown a (Call f rest) = Call f (With (expr_of a) rest)
    grown a other = other

pub expr_of-Call : (f : ℕ) (all : List CoreExpr) → expr_of (e.Call f all) ≡ Call f (exprs_of all)
expr_of-Call f all = exprs_row f all

built_row : (ty : CoreType) (all : List CoreExpr) → expr_of (e.Construct ty all) ≡ Construct ty (exprs_of all)
unfolding expr_of expr_row hidden-the_row-CoreExpr-0 hidden-the_row-CoreExpr-1 hidden
built_row ty [] = refl
built_row ty (a ∷ all) = ap (grown a) (built_row ty all)
  where
    grown : CoreExpr → Expr → Expr
    grown a (Construct ty rest) = Construct ty (With (expr_of a) rest)
    grown a other = other

pub expr_of-Construct : (ty : CoreType) (all : List CoreExpr) → expr_of (e.Construct ty all) ≡ Construct ty (exprs_of all)
expr_of-Construct ty all = built_row ty all

-- ---- statements

pub stmt_of-Nothing : stmt_of s.Nothing ≡ Nothing
unfolding stmt_of hidden-the_row-CoreStmt-0 hidden-the_row-CoreStmt-1 hidden
stmt_of-Nothing = refl

pub stmt_of-Empty : stmt_of s.Empty ≡ Empty
unfolding stmt_of hidden-the_row-CoreStmt-0 hidden-the_row-CoreStmt-1 hidden
stmt_of-Empty = refl

pub stmt_of-Locals : (all : List Declared) → stmt_of (s.Locals all) ≡ Locals (locals_of all)
unfolding stmt_of hidden-the_row-CoreStmt-0 hidden-the_row-CoreStmt-1 hidden
stmt_of-Locals all = refl

pub stmt_of-Assign : (target value : CoreExpr) → stmt_of (s.Assign target value) ≡ Assign (expr_of target) (expr_of value)
unfolding stmt_of hidden-the_row-CoreStmt-0 hidden-the_row-CoreStmt-1 hidden
stmt_of-Assign target value = refl

pub stmt_of-Update : (target : CoreExpr) (op : BinaryOp) (kind : Scalar) (value : CoreExpr) → stmt_of (s.Update target op kind value) ≡ Update (expr_of target) op kind (expr_of value)
unfolding stmt_of hidden-the_row-CoreStmt-0 hidden-the_row-CoreStmt-1 hidden
stmt_of-Update target op kind value = refl

pub stmt_of-Count : (op : CountOp) (target : CoreExpr) → stmt_of (s.Count op target) ≡ Count op (expr_of target)
unfolding stmt_of hidden-the_row-CoreStmt-0 hidden-the_row-CoreStmt-1 hidden
stmt_of-Count op target = refl

pub stmt_of-Call : (f : ℕ) (all : List CoreExpr) → stmt_of (s.Call f all) ≡ Perform f (exprs_of all)
unfolding stmt_of hidden-the_row-CoreStmt-0 hidden-the_row-CoreStmt-1 hidden
stmt_of-Call f all = refl

pub stmt_of-If : (c : CoreExpr) (a b : CoreStmt) → stmt_of (s.If c a b) ≡ If (expr_of c) (stmt_of a) (stmt_of b)
unfolding stmt_of hidden-the_row-CoreStmt-0 hidden-the_row-CoreStmt-1 hidden
stmt_of-If c a b = refl

pub stmt_of-Loop : (a : CoreStmt) (place : Place) → stmt_of (s.Loop a place) ≡ Loop (stmt_of a)
unfolding stmt_of hidden-the_row-CoreStmt-0 hidden-the_row-CoreStmt-1 hidden
stmt_of-Loop a place = refl

pub stmt_of-Times : (x : ℕ) (c : CoreExpr) (a : CoreStmt) (place : Place) → stmt_of (s.Times x c a place) ≡ Times x (expr_of c) (stmt_of a)
unfolding stmt_of hidden-the_row-CoreStmt-0 hidden-the_row-CoreStmt-1 hidden
stmt_of-Times x c a place = refl

pub stmt_of-While : (c : CoreExpr) (a : CoreStmt) (place : Place) → stmt_of (s.While c a place) ≡ While (expr_of c) (stmt_of a)
unfolding stmt_of hidden-the_row-CoreStmt-0 hidden-the_row-CoreStmt-1 hidden
stmt_of-While c a place = refl

pub stmt_of-Each : (x : ℕ) (a : CoreStmt) (place : Place) → stmt_of (s.Each x a place) ≡ Each x (stmt_of a)
unfolding stmt_of hidden-the_row-CoreStmt-0 hidden-the_row-CoreStmt-1 hidden
stmt_of-Each x a place = refl

pub stmt_of-For : (a : CoreStmt) (c : Option CoreExpr) (d b : CoreStmt) (place : Place) → stmt_of (s.For a c d b place) ≡ For (stmt_of a) (test_of c) (stmt_of d) (stmt_of b)
unfolding stmt_of hidden-the_row-CoreStmt-0 hidden-the_row-CoreStmt-1 hidden
stmt_of-For a c d b place = refl

pub stmt_of-Break : stmt_of s.Break ≡ Break
unfolding stmt_of hidden-the_row-CoreStmt-0 hidden-the_row-CoreStmt-1 hidden
stmt_of-Break = refl

pub stmt_of-Continue : stmt_of s.Continue ≡ Continue
unfolding stmt_of hidden-the_row-CoreStmt-0 hidden-the_row-CoreStmt-1 hidden
stmt_of-Continue = refl

pub stmt_of-Return : (value : Option CoreExpr) → stmt_of (s.Return value) ≡ return_of value
unfolding stmt_of hidden-the_row-CoreStmt-0 hidden-the_row-CoreStmt-1 hidden
stmt_of-Return value = refl

pub stmt_of-Advance : stmt_of s.Advance ≡ Advance
unfolding stmt_of hidden-the_row-CoreStmt-0 hidden-the_row-CoreStmt-1 hidden
stmt_of-Advance = refl

pub stmt_of-Write : (n : ℕ) (value : CoreExpr) → stmt_of (s.Write n value) ≡ Write n (expr_of value)
unfolding stmt_of hidden-the_row-CoreStmt-0 hidden-the_row-CoreStmt-1 hidden
stmt_of-Write n value = refl

-- the statements of a block
abbrev pub stmts_of : List CoreStmt → Stmts
stmts_of [] = End
stmts_of (a ∷ all) = More (stmt_of a) (stmts_of all)

stmts_row : (all : List CoreStmt) → stmt_of (s.Block all) ≡ Block (stmts_of all)
unfolding stmt_of stmt_row hidden-the_row-CoreStmt-0 hidden-the_row-CoreStmt-1 hidden
stmts_row [] = refl
stmts_row (a ∷ all) = ap (grown a) (stmts_row all)
  where
    grown : CoreStmt → Stmt → Stmt
    grown a (Block rest) = Block (More (stmt_of a) rest)
    grown a other = other

pub stmt_of-Block : (all : List CoreStmt) → stmt_of (s.Block all) ≡ Block (stmts_of all)
stmt_of-Block all = stmts_row all

pub ruleset expr_views = (expr_of-Number, expr_of-Truth, expr_of-Variable, expr_of-Input, expr_of-Constant, expr_of-Field, expr_of-Index, expr_of-Convert, expr_of-Unary, expr_of-Binary, expr_of-Logic, expr_of-Choose, expr_of-Call, expr_of-Construct)

pub ruleset stmt_views = (stmt_of-Nothing, stmt_of-Empty, stmt_of-Locals, stmt_of-Assign, stmt_of-Update, stmt_of-Count, stmt_of-Call, stmt_of-If, stmt_of-Loop, stmt_of-Times, stmt_of-While, stmt_of-Each, stmt_of-For, stmt_of-Break, stmt_of-Continue, stmt_of-Return, stmt_of-Advance, stmt_of-Write, stmt_of-Block)
