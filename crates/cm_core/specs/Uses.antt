-- What code calls and writes.
use Rattle.std.specs.Prelude.{ℕ}
use Rattle.cm_core.specs.Code.{Expr, Number, Truth, Variable, Input, Constant, Field, Index, Call, Construct, Convert, Unary, Binary, Logic, Choose, Exprs, Last, With, Test, Always, Holds, Down, Next, Stmt, Nothing, Empty, Block, Locals, Cleared, Started, Assign, Update, Count, Perform, If, Loop, Times, While, Each, For, Break, Continue, Return, Answer, Advance, Write, Stmts, End, More}

-- each function that an expression calls is one of these
abbrev mutual
  pub Calls : (ℕ → Type 0) → Expr → Type 0
  Calls call (Number value wide) = Unit {0}
  Calls call (Truth value) = Unit {0}
  Calls call (Variable x) = Unit {0}
  Calls call (Input e) = Unit {0}
  Calls call (Constant c) = Unit {0}
  Calls call (Field a k) = Calls call a
  Calls call (Index a i) = Calls call a × Calls call i
  Calls call (Call f es) = CallsAll call es × call f
  Calls call (Construct ty es) = CallsAll call es
  Calls call (Convert kind a) = Calls call a
  Calls call (Unary op kind a) = Calls call a
  Calls call (Binary op kind a b) = Calls call a × Calls call b
  Calls call (Logic op a b) = Calls call a × Calls call b
  Calls call (Choose c a b) = Calls call c × Calls call a × Calls call b

  pub CallsAll : (ℕ → Type 0) → Exprs → Type 0
  CallsAll call Last = Unit {0}
  CallsAll call (With e es) = Calls call e × CallsAll call es

abbrev pub CallsTest : (ℕ → Type 0) → Test → Type 0
CallsTest call Always = Unit {0}
CallsTest call (Holds e) = Calls call e
CallsTest call (Down x) = Unit {0}
CallsTest call (Next x) = Unit {0}

-- each function that a statement calls is one of these, and each output that it writes one of those
abbrev mutual
  pub Uses : (call write : ℕ → Type 0) → Stmt → Type 0
  Uses call write Nothing = Unit {0}
  Uses call write Empty = Unit {0}
  Uses call write (Block ss) = UsesAll call write ss
  Uses call write (Locals ss) = UsesAll call write ss
  Uses call write (Cleared x) = Unit {0}
  Uses call write (Started x e) = Calls call e
  Uses call write (Assign target e) = Calls call target × Calls call e
  Uses call write (Update target op kind e) = Calls call target × Calls call e
  Uses call write (Count op target) = Calls call target
  Uses call write (Perform f es) = CallsAll call es × call f
  Uses call write (If c a b) = Calls call c × Uses call write a × Uses call write b
  Uses call write (Loop s) = Uses call write s
  Uses call write (Times x c s) = Calls call c × Uses call write s
  Uses call write (While c s) = Calls call c × Uses call write s
  Uses call write (Each x s) = Uses call write s
  Uses call write (For start c step s) = Uses call write start × CallsTest call c × Uses call write step × Uses call write s
  Uses call write Break = Unit {0}
  Uses call write Continue = Unit {0}
  Uses call write Return = Unit {0}
  Uses call write (Answer e) = Calls call e
  Uses call write Advance = Unit {0}
  Uses call write (Write n e) = Calls call e × write n

  pub UsesAll : (call write : ℕ → Type 0) → Stmts → Type 0
  UsesAll call write End = Unit {0}
  UsesAll call write (More s ss) = Uses call write s × UsesAll call write ss
