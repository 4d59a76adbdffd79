-- When the statements of a unit are typed, and how deep code nests: docs/LANGUAGE.md, "Statements".
use Rattle.std.specs.Prelude.{ℕ, suc, ◌≡◌, ◌⊎◌, max, Bool, true, false, not, ◌&&◌, ◌||◌, Option, Some, None, IsSomeAnd, slice_get}
use Rattle.cm_base.specs.declared.host.Flow.TheVariants.{Output as Outgoing}
use Rattle.cm_base.specs.declared.host.Scalar.{Scalar}
use Rattle.cm_base.specs.declared.host.Scalar.TheVariants as kinds
use Rattle.cm_core.specs.declared.core_type.CoreType.{CoreType}
use Rattle.cm_core.specs.declared.operator.BinaryOp.{BinaryOp}
use Rattle.cm_core.specs.declared.program.End.{End}
use Rattle.cm_core.specs.Code.{Expr, Variable, Field, Index, Call, Construct, Convert, Unary, Binary, Logic, Choose, Exprs, Last, With, Test, Always, Holds, Down, Next, Stmt, Nothing, Empty, Block, Locals, Cleared, Started, Assign, Update, Count, Perform, If, Loop, Times, While, Each, For, Break, Continue, Return, Answer, Advance, Write, Stmts, End as NoMore, More}
use Rattle.cm_core.specs.Types.{scalar_type, truth_type, variable_type, compares}
use Rattle.cm_core.specs.Typing.{Names, IsTyped, AreTyped, IsNumber, IsWide, ComputesIn, IsRight, Divides, TakesTypes, types_of, type_in, is_bitwise, widens}

-- ---- statements

-- where a statement stands: what it may name, what its body gives, whether it stands in a loop, and whether the body may
-- advance and write
pub record Standing : Type 0 where
  pub names : Names
  pub result : Option CoreType
  pub looped : Bool
  pub advances : Bool
  pub writes : Bool

abbrev pub in_loop : Standing → Standing
in_loop p = record p { looped = true }

-- a target is a variable, or a part of a target
abbrev pub is_target : Expr → Bool
is_target (Variable x) = true
is_target (Field a k) = is_target a
is_target (Index a i) = is_target a
is_target _ = false

abbrev pub IsTarget : Standing → Expr → Type 0
IsTarget p e = (is_target e ≡ true) × IsTyped p.names e

abbrev pub IsTruth : Standing → Expr → Type 0
IsTruth p e = IsTyped p.names e × (type_in p.names e ≡ truth_type)

-- an expression of just this type
abbrev pub IsOf : Standing → CoreType → Expr → Type 0
IsOf p ty e = IsTyped p.names e × (type_in p.names e ≡ ty)

-- a scalar of the one kind becomes one of the other, or is it
abbrev pub Becomes : Scalar → Scalar → Type 0
Becomes from to = (from ≡ to) ⊎ (widens from to ≡ true)

-- the target is taken as the kind that the operator computes in, which compares nothing; a `bool` stays one
abbrev pub Updates : Standing → Expr → BinaryOp → Scalar → Type 0
Updates p target op kind =
    (compares op ≡ false) × (from : Scalar) × (type_in p.names target ≡ scalar_type from) × Becomes from kind
    × (IsWide kind ⊎ (kind ≡ kinds.Bool) × (from ≡ kinds.Bool) × (is_bitwise op ≡ true))

abbrev pub Owns : Standing → ℕ → Type 0
Owns p x = p.names.owns x ≡ true

abbrev pub IsWrap : CoreType → Type 0
IsWrap ty = (n : ℕ) × (ty ≡ scalar_type (kinds.Wrap n))

abbrev pub IsTest : Standing → Test → Type 0
IsTest p Always = Unit {0}
IsTest p (Holds e) = IsTruth p e
IsTest p (Down x) = ⊥
IsTest p (Next x) = ⊥

-- what may stand in the head of a `for`, which doesn't suspend
abbrev pub is_simple : Stmt → Bool
is_simple Nothing = true
is_simple (Locals ss) = true
is_simple (Assign target e) = true
is_simple (Update target op kind e) = true
is_simple (Count op target) = true
is_simple (Perform f es) = true
is_simple _ = false

-- a declared local
abbrev pub is_declared : Stmt → Bool
is_declared (Cleared x) = true
is_declared (Started x e) = true
is_declared _ = false

abbrev pub AreDeclared : Stmts → Type 0
AreDeclared NoMore = Unit {0}
AreDeclared (More s ss) = (is_declared s ≡ true) × AreDeclared ss

abbrev pub TakesValue : Standing → Expr → End → Type 0
TakesValue p e end = (end.flow ≡ Outgoing) × (type_in p.names e ≡ end.ty)

abbrev mutual
  pub IsStmt : Standing → Stmt → Type 0
  IsStmt p Nothing = Unit {0}
  IsStmt p Empty = Unit {0}
  IsStmt p (Block ss) = AreStmts p ss
  IsStmt p (Locals ss) = AreDeclared ss × AreStmts p ss
  IsStmt p (Cleared x) = Owns p x
  IsStmt p (Started x e) = Owns p x × IsOf p (variable_type p.names.unit x) e
  IsStmt p (Assign target e) = IsTarget p target × IsOf p (type_in p.names target) e
  IsStmt p (Update target op kind e) =
      IsTarget p target × IsTyped p.names e × Updates p target op kind × ComputesIn op kind × IsRight op kind (type_in p.names e)
      × Divides p.names.structs p.names.unit op e
  IsStmt p (Count op target) = IsTarget p target × IsNumber (type_in p.names target)
  IsStmt p (Perform f es) = AreTyped p.names es × TakesTypes p.names f (types_of p.names.structs p.names.unit es)
  IsStmt p (If c a b) = IsTruth p c × IsStmt p a × IsStmt p b
  IsStmt p (Loop s) = IsStmt (in_loop p) s
  IsStmt p (Times x c s) = Owns p x × IsNumber (variable_type p.names.unit x) × IsOf p (variable_type p.names.unit x) c × IsStmt (in_loop p) s
  IsStmt p (While c s) = IsTruth p c × IsStmt (in_loop p) s
  IsStmt p (Each x s) = Owns p x × IsWrap (variable_type p.names.unit x) × IsStmt (in_loop p) s
  IsStmt p (For start c step s) =
      (is_simple start ≡ true) × (is_simple step ≡ true) × IsStmt p start × IsTest p c × IsStmt p step × IsStmt (in_loop p) s
  IsStmt p Break = p.looped ≡ true
  IsStmt p Continue = p.looped ≡ true
  IsStmt p Return = p.result ≡ None
  IsStmt p (Answer e) = IsTyped p.names e × (p.result ≡ Some (type_in p.names e))
  IsStmt p Advance = p.advances ≡ true
  IsStmt p (Write n e) = (p.writes ≡ true) × IsTyped p.names e × IsSomeAnd (slice_get p.names.unit.ends n) (TakesValue p e)

  pub AreStmts : Standing → Stmts → Type 0
  AreStmts p NoMore = Unit {0}
  AreStmts p (More s ss) = IsStmt p s × AreStmts p ss

-- ---- a result

-- whether a statement has a `break` of the loop round it
abbrev mutual
  pub breaks : Stmt → Bool
  breaks (Block ss) = any_breaks ss
  breaks (If c a b) = breaks a || breaks b
  breaks Break = true
  breaks _ = false

  pub any_breaks : Stmts → Bool
  any_breaks NoMore = false
  any_breaks (More s ss) = breaks s || any_breaks ss

-- whether a statement surely returns: `return`, an `if` both of whose arms do, a block whose last statement does, or a `loop`
-- without a count and a `break` of its own
abbrev mutual
  pub returns : Stmt → Bool
  returns (Block ss) = last_returns ss
  returns (If c a b) = returns a && returns b
  returns (Loop s) = not (breaks s)
  returns (Answer e) = true
  returns _ = false

  pub last_returns : Stmts → Bool
  last_returns NoMore = false
  last_returns (More s NoMore) = returns s
  last_returns (More s (More t ss)) = last_returns (More t ss)

-- ---- nesting

-- how many `?:`, `&&` and `||` stand inside one another
abbrev mutual
  pub expr_nesting : Expr → ℕ
  expr_nesting (Field a k) = expr_nesting a
  expr_nesting (Index a i) = max (expr_nesting a) (expr_nesting i)
  expr_nesting (Call f es) = exprs_nesting es
  expr_nesting (Construct ty es) = exprs_nesting es
  expr_nesting (Convert kind a) = expr_nesting a
  expr_nesting (Unary op kind a) = expr_nesting a
  expr_nesting (Binary op kind a b) = max (expr_nesting a) (expr_nesting b)
  expr_nesting (Logic op a b) = suc (max (expr_nesting a) (expr_nesting b))
  expr_nesting (Choose c a b) = suc (max (expr_nesting c) (max (expr_nesting a) (expr_nesting b)))
  expr_nesting _ = 0

  pub exprs_nesting : Exprs → ℕ
  exprs_nesting Last = 0
  exprs_nesting (With e es) = max (expr_nesting e) (exprs_nesting es)

abbrev pub test_nesting : Test → ℕ
test_nesting (Holds e) = expr_nesting e
test_nesting _ = 0

-- how many statements, blocks among them, and of those operators stand inside one another; what isn't written is none
abbrev mutual
  pub nesting : Stmt → ℕ
  nesting Nothing = 0
  nesting (Block ss) = suc (stmts_nesting ss)
  nesting (Locals ss) = stmts_nesting ss
  nesting (Started x e) = suc (expr_nesting e)
  nesting (Assign target e) = suc (max (expr_nesting target) (expr_nesting e))
  nesting (Update target op kind e) = suc (max (expr_nesting target) (expr_nesting e))
  nesting (Count op target) = suc (expr_nesting target)
  nesting (Perform f es) = suc (exprs_nesting es)
  nesting (If c a b) = suc (max (expr_nesting c) (max (nesting a) (nesting b)))
  nesting (Loop s) = suc (nesting s)
  nesting (Times x c s) = suc (max (expr_nesting c) (nesting s))
  nesting (While c s) = suc (max (expr_nesting c) (nesting s))
  nesting (Each x s) = suc (nesting s)
  nesting (For start c step s) = suc (max (max (nesting start) (test_nesting c)) (max (nesting step) (nesting s)))
  nesting (Answer e) = suc (expr_nesting e)
  nesting (Write n e) = suc (expr_nesting e)
  nesting _ = 1

  pub stmts_nesting : Stmts → ℕ
  stmts_nesting NoMore = 0
  stmts_nesting (More s ss) = max (nesting s) (stmts_nesting ss)
