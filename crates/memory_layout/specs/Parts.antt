-- How many parts code has: what recursion over it goes down.
use Rattle.std.specs.Prelude.{ℕ, ◌+◌}
use Rattle.cm_core.specs.Code.{Expr, Number, Truth, Variable, Input, Constant, Field, Index, Call, Construct, Convert, Unary, Binary, Logic, Choose, Exprs, Last, With, Stmt, Block, If, Loop, Times, While, Each, For, Stmts, End, More}

abbrev mutual
  pub parts : Expr → ℕ
  parts (Number value wide) = 1
  parts (Truth value) = 1
  parts (Variable x) = 1
  parts (Input e) = 1
  parts (Constant c) = 1
  parts (Field a k) = parts a + 1
  parts (Index a i) = parts a + parts i + 1
  parts (Call f es) = all_parts es + 1
  parts (Construct ty es) = all_parts es + 1
  parts (Convert kind a) = parts a + 1
  parts (Unary op kind a) = parts a + 1
  parts (Binary op kind a b) = parts a + parts b + 1
  parts (Logic op a b) = parts a + parts b + 1
  parts (Choose c a b) = parts c + parts a + parts b + 1

  pub all_parts : Exprs → ℕ
  all_parts Last = 0
  all_parts (With e es) = parts e + 1 + all_parts es

abbrev mutual
  pub stmt_parts : Stmt → ℕ
  stmt_parts (Block ss) = stmts_parts ss + 1
  stmt_parts (If c a b) = stmt_parts a + stmt_parts b + 1
  stmt_parts (Loop s) = stmt_parts s + 1
  stmt_parts (Times x c s) = stmt_parts s + 1
  stmt_parts (While c s) = stmt_parts s + 1
  stmt_parts (Each x s) = stmt_parts s + 1
  stmt_parts (For start c step s) = stmt_parts start + stmt_parts step + stmt_parts s + 1
  stmt_parts _ = 1

  pub stmts_parts : Stmts → ℕ
  stmts_parts End = 0
  stmts_parts (More s ss) = stmt_parts s + 1 + stmts_parts ss
