-- The sizes of expressions and statements: docs/LANGUAGE.md, "Sizes".
use Rattle.std.specs.Prelude.{ℕ, ◌+◌, max, Bool, true, false, not, ◌||◌, if◌then◌else◌, List, [], length, sum_by, Option, Some, None, option_map, unwrap_or, slice_get}
use Rattle.cm_base.specs.declared.host.Scalar.{Scalar}
use Rattle.cm_base.specs.declared.host.Scalar.TheVariants as kinds
use Rattle.cm_core.specs.declared.core_type.CoreType.{CoreType}
use Rattle.cm_core.specs.declared.core_type.StructType.{StructType}
use Rattle.cm_core.specs.declared.unit.Unit.{Unit as CoreUnit}
use Rattle.cm_core.specs.declared.unit.Var.{Var}
use Rattle.cm_core.specs.declared.unit.Function.{Function}
use Rattle.cm_core.specs.Code.{Expr, Number, Truth, Variable, Input, Constant, Field, Index, Call, Construct, Convert, Unary, Binary, Logic, Choose, Exprs, Last, With, Test, Always, Holds, Down, Next, Stmt, Nothing, Empty, Block, Locals, Cleared, Started, Assign, Update, Count, Perform, If, Loop, Times, While, Each, For, Break, Continue, Return, Answer, Advance, Write, Stmts, End as NoMore, More}
use Rattle.cm_core.specs.Types.{count_of, variable_type, type_of, result_type, is_constant, is_place}
use Rattle.cm_core.specs.Linked.{end_of}

-- ---- scalars and bytes

-- how many scalars a shape has, or 1 for one that has none
abbrev pub scalars : List Scalar → ℕ
scalars shape = max 1 (length shape)

-- eight bytes for an int64, and four for another scalar
abbrev pub scalar_bytes : Scalar → ℕ
scalar_bytes kinds.Int32 = 4
scalar_bytes kinds.Int64 = 8
scalar_bytes kinds.Bool = 4
scalar_bytes (kinds.Wrap n) = 4
scalar_bytes (kinds.Clamp n) = 4

abbrev pub bytes_of : List Scalar → ℕ
bytes_of shape = sum_by scalar_bytes shape

-- ---- expressions

-- what code is measured in: the structs, the unit, the sizes of the bodies of functions, and what the write of an event
-- counts for its chains
pub record Measured : Type 0 where
  pub structs : List StructType
  pub unit : CoreUnit
  pub body : ℕ → ℕ
  pub chains : ℕ → ℕ

abbrev pub scalars_in : Measured → CoreType → ℕ
scalars_in m ty = max 1 (count_of m.structs ty)

abbrev pub result_scalars : Measured → Option CoreType → ℕ
result_scalars m None = 0
result_scalars m (Some ty) = scalars_in m ty

abbrev pub params_of : CoreUnit → ℕ → List Var
params_of unit f = unwrap_or (option_map (λ (f : Function). f.params) (slice_get unit.functions f)) []

-- a call without its arguments: 1, the scalars of the result and of the parameters, and the body
abbrev pub call_size : Measured → ℕ → ℕ
call_size m f = 1 + result_scalars m (result_type m.unit f) + sum_by (λ (p : Var). scalars_in m p.ty) (params_of m.unit f) + m.body f

-- whether an index of a selection isn't a constant
abbrev pub moves : Expr → Bool
moves (Field a k) = moves a
moves (Index a i) = moves a || not (is_constant i)
moves _ = false

-- an expression is used as a value, or as a place that is only selected from or assigned to, within a selection of which
-- an index isn't a constant or of which all are
pub data Use : Type 0 where
  AsValue : Use
  AsPlace : (moving : Bool) → Use

abbrev pub value_size : Measured → Expr → ℕ
value_size m e = 1 + scalars_in m (type_of m.structs m.unit e)

-- without its parts: a value counts its scalars too, and so does the name of a constant that moving indices select from
abbrev pub own_size : Measured → Use → Expr → ℕ
own_size m AsValue e = value_size m e
own_size m (AsPlace true) (Constant c) = value_size m (Constant c)
own_size m (AsPlace moving) e = if is_place e then 1 else value_size m e

-- what the part is used as that a selection is taken of
abbrev pub part_use : Use → Expr → Use
part_use AsValue e = AsPlace (moves e)
part_use (AsPlace moving) e = AsPlace moving

-- conversions that aren't written count nothing
abbrev mutual
  pub expr_size : Measured → Use → Expr → ℕ
  expr_size m use_of (Number value wide) = own_size m use_of (Number value wide)
  expr_size m use_of (Truth value) = own_size m use_of (Truth value)
  expr_size m use_of (Variable x) = own_size m use_of (Variable x)
  expr_size m use_of (Input e) = own_size m use_of (Input e)
  expr_size m use_of (Constant c) = own_size m use_of (Constant c)
  expr_size m use_of (Field a k) = own_size m use_of (Field a k) + expr_size m (part_use use_of (Field a k)) a
  expr_size m use_of (Index a i) = own_size m use_of (Index a i) + expr_size m (part_use use_of (Index a i)) a + expr_size m AsValue i
  expr_size m use_of (Call f es) = call_size m f + exprs_size m es
  expr_size m use_of (Construct ty es) = value_size m (Construct ty es) + exprs_size m es
  expr_size m use_of (Convert kind a) = expr_size m AsValue a
  expr_size m use_of (Unary op kind a) = value_size m (Unary op kind a) + expr_size m AsValue a
  expr_size m use_of (Binary op kind a b) = value_size m (Binary op kind a b) + expr_size m AsValue a + expr_size m AsValue b
  expr_size m use_of (Logic op a b) = value_size m (Logic op a b) + expr_size m AsValue a + expr_size m AsValue b
  expr_size m use_of (Choose c a b) = value_size m (Choose c a b) + expr_size m AsValue c + expr_size m AsValue a + expr_size m AsValue b

  pub exprs_size : Measured → Exprs → ℕ
  exprs_size m Last = 0
  exprs_size m (With e es) = expr_size m AsValue e + exprs_size m es

-- ---- statements

abbrev pub test_size : Measured → Test → ℕ
test_size m Always = 0
test_size m (Holds e) = expr_size m AsValue e
test_size m (Down x) = 0
test_size m (Next x) = 0

-- 1, the scalars of the target, and the target
abbrev pub target_size : Measured → Expr → ℕ
target_size m target = value_size m target + expr_size m (AsPlace false) target

-- 1, the scalars of the variable
abbrev pub local_size : Measured → ℕ → ℕ
local_size m x = 1 + scalars_in m (variable_type m.unit x)

abbrev mutual
  pub stmt_size : Measured → Stmt → ℕ
  stmt_size m Nothing = 0
  stmt_size m Empty = 1
  stmt_size m (Block ss) = 1 + stmts_size m ss
  stmt_size m (Locals ss) = stmts_size m ss
  stmt_size m (Cleared x) = local_size m x
  stmt_size m (Started x e) = local_size m x + expr_size m AsValue e
  stmt_size m (Assign target e) = target_size m target + expr_size m AsValue e
  stmt_size m (Update target op kind e) = target_size m target + expr_size m AsValue e
  stmt_size m (Count op target) = target_size m target
  stmt_size m (Perform f es) = 1 + call_size m f + exprs_size m es
  stmt_size m (If c a b) = 1 + expr_size m AsValue c + stmt_size m a + stmt_size m b
  stmt_size m (Loop s) = 1 + stmt_size m s
  stmt_size m (Times x c s) = 1 + expr_size m AsValue c + stmt_size m s
  stmt_size m (While c s) = 1 + expr_size m AsValue c + stmt_size m s
  stmt_size m (Each x s) = 2 + stmt_size m s
  stmt_size m (For start c step s) = 1 + stmt_size m start + test_size m c + stmt_size m step + stmt_size m s
  stmt_size m Break = 1
  stmt_size m Continue = 1
  stmt_size m Return = 1
  stmt_size m (Answer e) = 1 + expr_size m AsValue e
  stmt_size m Advance = 1
  stmt_size m (Write e value) = 1 + scalars (end_of m.unit e).shape + expr_size m AsValue value + m.chains e

  pub stmts_size : Measured → Stmts → ℕ
  stmts_size m NoMore = 0
  stmts_size m (More s ss) = stmt_size m s + stmts_size m ss
