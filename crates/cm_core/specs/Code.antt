-- The code of a unit as trees without places: the expressions and statements of `src/`, one for one, so that meanings and
-- sizes are recursions over plain trees: docs/LANGUAGE.md, "Expressions" and "Statements".
use Rattle.std.specs.Prelude.{ℕ, ℤ, Bool, List, [], ◌∷◌, Option, Some, None}
use Rattle.cm_base.specs.declared.host.Scalar.{Scalar}
use Rattle.cm_core.specs.declared.core_type.CoreType.{CoreType}
use Rattle.cm_core.specs.declared.operator.UnaryOp.{UnaryOp}
use Rattle.cm_core.specs.declared.operator.BinaryOp.{BinaryOp}
use Rattle.cm_core.specs.declared.operator.LogicOp.{LogicOp}
use Rattle.cm_core.specs.declared.operator.CountOp.{CountOp}
use Rattle.cm_core.specs.declared.expr.CoreExpr.{CoreExpr, Row_of-CoreExpr, end_of-CoreExpr, more_of-CoreExpr}
use Rattle.cm_core.specs.declared.expr.CoreExpr.TheVariants as e
use Rattle.cm_core.specs.declared.stmt.CoreStmt.{CoreStmt, Row_of-CoreStmt, end_of-CoreStmt, more_of-CoreStmt}
use Rattle.cm_core.specs.declared.stmt.CoreStmt.TheVariants as s
use Rattle.cm_core.specs.declared.stmt.Declared.{Declared}

-- ---- trees

mutual
  pub data Expr : Type 0 where
    Number : (value : ℤ) → (wide : Bool) → Expr
    Truth : (value : Bool) → Expr
    Variable : (variable : ℕ) → Expr
    Input : (end : ℕ) → Expr
    Constant : (constant : ℕ) → Expr
    Field : (whole : Expr) → (field : ℕ) → Expr
    Index : (whole index : Expr) → Expr
    Call : (function : ℕ) → (arguments : Exprs) → Expr
    Construct : (ty : CoreType) → (values : Exprs) → Expr
    Convert : (kind : Scalar) → (value : Expr) → Expr
    Unary : (op : UnaryOp) → (kind : Scalar) → (a : Expr) → Expr
    Binary : (op : BinaryOp) → (kind : Scalar) → (a b : Expr) → Expr
    Logic : (op : LogicOp) → (a b : Expr) → Expr
    Choose : (test a b : Expr) → Expr

  pub data Exprs : Type 0 where
    Last : Exprs
    With : (first : Expr) → (others : Exprs) → Exprs

-- whether the body of a loop is begun: in any case; where an expression holds; where the count in a variable is above 0,
-- which it lowers; where the `wrap` in a variable has a further value, which it takes
pub data Test : Type 0 where
  Always : Test
  Holds : (test : Expr) → Test
  Down : (variable : ℕ) → Test
  Next : (variable : ℕ) → Test

-- a declared local is `Cleared`, or `Started` with an initial value; `Perform` is a call as a statement
mutual
  pub data Stmt : Type 0 where
    Nothing : Stmt
    Empty : Stmt
    Block : (all : Stmts) → Stmt
    Locals : (all : Stmts) → Stmt
    Cleared : (variable : ℕ) → Stmt
    Started : (variable : ℕ) → (value : Expr) → Stmt
    Assign : (target value : Expr) → Stmt
    Update : (target : Expr) → (op : BinaryOp) → (kind : Scalar) → (value : Expr) → Stmt
    Count : (op : CountOp) → (target : Expr) → Stmt
    Perform : (function : ℕ) → (arguments : Exprs) → Stmt
    If : (test : Expr) → (a b : Stmt) → Stmt
    Loop : (body : Stmt) → Stmt
    Times : (variable : ℕ) → (count : Expr) → (body : Stmt) → Stmt
    While : (test : Expr) → (body : Stmt) → Stmt
    Each : (variable : ℕ) → (body : Stmt) → Stmt
    For : (start : Stmt) → (test : Test) → (step body : Stmt) → Stmt
    Break : Stmt
    Continue : Stmt
    Return : Stmt
    Answer : (value : Expr) → Stmt
    Advance : Stmt
    Write : (end : ℕ) → (value : Expr) → Stmt

  pub data Stmts : Type 0 where
    End : Stmts
    More : (first : Stmt) → (others : Stmts) → Stmts

-- ---- the trees of `src/`

unfoldable mutual
  pub expr_of : CoreExpr → Expr
  expr_of (e.Number value wide) = Number value wide
  expr_of (e.Truth value) = Truth value
  expr_of (e.Variable x) = Variable x
  expr_of (e.Input n) = Input n
  expr_of (e.Constant c) = Constant c
  expr_of (e.Field' h (more_of-CoreExpr a end_of-CoreExpr) k) = Field (expr_of a) k
  expr_of (e.Index' h (more_of-CoreExpr a end_of-CoreExpr) i (more_of-CoreExpr x end_of-CoreExpr)) = Index (expr_of a) (expr_of x)
  expr_of (e.Call' f h all) = Call f (expr_row all)
  expr_of (e.Construct' ty h all) = Construct ty (expr_row all)
  expr_of (e.Convert' kind h (more_of-CoreExpr a end_of-CoreExpr)) = Convert kind (expr_of a)
  expr_of (e.Unary' op kind h (more_of-CoreExpr a end_of-CoreExpr)) = Unary op kind (expr_of a)
  expr_of (e.Binary' op kind h (more_of-CoreExpr a end_of-CoreExpr) i (more_of-CoreExpr b end_of-CoreExpr)) = Binary op kind (expr_of a) (expr_of b)
  expr_of (e.Logic' op h (more_of-CoreExpr a end_of-CoreExpr) i (more_of-CoreExpr b end_of-CoreExpr)) = Logic op (expr_of a) (expr_of b)
  expr_of (e.Choose' h (more_of-CoreExpr c end_of-CoreExpr) i (more_of-CoreExpr a end_of-CoreExpr) j (more_of-CoreExpr b end_of-CoreExpr)) =
      Choose (expr_of c) (expr_of a) (expr_of b)

  pub expr_row : {m : _} → Row_of-CoreExpr m → Exprs
  expr_row end_of-CoreExpr = Last
  expr_row (more_of-CoreExpr a rest) = With (expr_of a) (expr_row rest)

abbrev pub exprs_of : List CoreExpr → Exprs
exprs_of [] = Last
exprs_of (a ∷ others) = With (expr_of a) (exprs_of others)

abbrev pub local_of : ℕ → Option CoreExpr → Stmt
local_of x None = Cleared x
local_of x (Some a) = Started x (expr_of a)

abbrev pub locals_of : List Declared → Stmts
locals_of [] = End
locals_of (d ∷ ds) = More (local_of d.variable d.first) (locals_of ds)

abbrev pub test_of : Option CoreExpr → Test
test_of None = Always
test_of (Some a) = Holds (expr_of a)

abbrev pub return_of : Option CoreExpr → Stmt
return_of None = Return
return_of (Some a) = Answer (expr_of a)

unfoldable mutual
  pub stmt_of : CoreStmt → Stmt
  stmt_of s.Nothing = Nothing
  stmt_of s.Empty = Empty
  stmt_of (s.Block' h all) = Block (stmt_row all)
  stmt_of (s.Locals all) = Locals (locals_of all)
  stmt_of (s.Assign target value) = Assign (expr_of target) (expr_of value)
  stmt_of (s.Update target op kind value) = Update (expr_of target) op kind (expr_of value)
  stmt_of (s.Count op target) = Count op (expr_of target)
  stmt_of (s.Call f all) = Perform f (exprs_of all)
  stmt_of (s.If' c h (more_of-CoreStmt a end_of-CoreStmt) i (more_of-CoreStmt b end_of-CoreStmt)) = If (expr_of c) (stmt_of a) (stmt_of b)
  stmt_of (s.Loop' h (more_of-CoreStmt a end_of-CoreStmt) place) = Loop (stmt_of a)
  stmt_of (s.Times' x c h (more_of-CoreStmt a end_of-CoreStmt) place) = Times x (expr_of c) (stmt_of a)
  stmt_of (s.While' c h (more_of-CoreStmt a end_of-CoreStmt) place) = While (expr_of c) (stmt_of a)
  stmt_of (s.Each' x h (more_of-CoreStmt a end_of-CoreStmt) place) = Each x (stmt_of a)
  stmt_of (s.For' h (more_of-CoreStmt a end_of-CoreStmt) c i (more_of-CoreStmt d end_of-CoreStmt) j (more_of-CoreStmt b end_of-CoreStmt) place) =
      For (stmt_of a) (test_of c) (stmt_of d) (stmt_of b)
  stmt_of s.Break = Break
  stmt_of s.Continue = Continue
  stmt_of (s.Return value) = return_of value
  stmt_of s.Advance = Advance
  stmt_of (s.Write n value) = Write n (expr_of value)

  pub stmt_row : {m : _} → Row_of-CoreStmt m → Stmts
  stmt_row end_of-CoreStmt = End
  stmt_row (more_of-CoreStmt a rest) = More (stmt_of a) (stmt_row rest)

-- a body that isn't there does nothing
abbrev pub body_of : Option CoreStmt → Stmt
body_of None = Nothing
body_of (Some a) = stmt_of a
