-- The sizes of types and expressions: docs/LANGUAGE.md, "Sizes".
use Rattle.std.specs.Prelude.{ℕ, ◌+◌, ◌*◌, max, Bool, true, false, not, ◌&&◌, ◌||◌, if◌then◌else◌, List, [], ◌∷◌, Option, Some, None}
use Rattle.cm_base.specs.declared.host.Scalar.{Scalar}
use Rattle.cm_base.specs.declared.host.Scalar.TheVariants as kinds
use Rattle.cm_tree.specs.declared.expr.Expr.{Expr, Row_of-Expr, end_of-Expr, more_of-Expr}
use Rattle.cm_tree.specs.declared.expr.Expr.TheVariants as e
use Rattle.cm_meaning.specs.Declared.{Declared, is_function}
use Rattle.cm_meaning.specs.Scopes.{Around, find}
use Rattle.cm_meaning.specs.Types.{CmType, Single, Array, Record, FieldTypes, NoFields, Field, scalars}
use Rattle.cm_meaning.specs.TypeOf.{Knowledge, type_of, is_constant, is_constant_name}

-- ---- types

-- how many scalars a type has, or 1 for one that has none; 0 where there is no type, as of a `void` function
abbrev pub scalars_in : Option CmType → ℕ
scalars_in None = 0
scalars_in (Some t) = max 1 (scalars t)

-- eight bytes for an int64, and four for another scalar
abbrev pub scalar_bytes : Scalar → ℕ
scalar_bytes kinds.Int32 = 4
scalar_bytes kinds.Int64 = 8
scalar_bytes kinds.Bool = 4
scalar_bytes (kinds.Wrap n) = 4
scalar_bytes (kinds.Clamp n) = 4

unfoldable mutual
  pub bytes_in : CmType → ℕ
  bytes_in (Single kind) = scalar_bytes kind
  bytes_in (Array n t) = n * bytes_in t
  bytes_in (Record p fields) = bytes_in_fields fields

  pub bytes_in_fields : FieldTypes → ℕ
  bytes_in_fields NoFields = 0
  bytes_in_fields (Field n t others) = bytes_in t + bytes_in_fields others

-- ---- what code is measured in

-- What is known in its instance; what a call counts besides its arguments; and what a write counts for its endpoint.
pub record Measured : Type 0 where
  pub known : Knowledge
  pub call : Declared → ℕ
  pub write : Declared → ℕ

-- an expression is used as a value, or as a place that is only selected from or assigned to, within a selection of which
-- an index isn't a constant or of which all are
pub data Use : Type 0 where
  AsValue : Use
  AsPlace : (moving : Bool) → Use

-- ---- selections

-- whether fields and indices are taken of a name
unfoldable pub is_place : Expr → Bool
is_place (e.Name q) = true
is_place (e.Paren' p sh (more_of-Expr a end_of-Expr)) = is_place a
is_place (e.Field' p sh (more_of-Expr a end_of-Expr) w) = is_place a
is_place (e.Index' p sh (more_of-Expr a end_of-Expr) i c) = is_place a
is_place _ = false

-- whether an index of a selection isn't a constant
unfoldable pub moves : Around → Expr → Bool
moves r (e.Paren' p sh (more_of-Expr a end_of-Expr)) = moves r a
moves r (e.Field' p sh (more_of-Expr a end_of-Expr) w) = moves r a
moves r (e.Index' p sh (more_of-Expr a end_of-Expr) i (more_of-Expr c end_of-Expr)) = moves r a || not (is_constant r c)
moves r _ = false

-- the name of a `let` of a namespace, processor or graph, or of a parameter of a processor or graph
abbrev pub names_constant : Around → Expr → Bool
names_constant r (e.Name q) = is_constant_name (find r q)
names_constant r _ = false

-- what the part is used as that a selection is taken of
abbrev pub part_use : Around → Use → Expr → Use
part_use r AsValue a = AsPlace (moves r a)
part_use r (AsPlace moving) a = AsPlace moving

-- ---- expressions

abbrev pub value_size : Around → Measured → Expr → ℕ
value_size r m a = 1 + scalars_in (type_of r m.known a)

-- without its parts: a value counts its scalars too, and so does the name of a constant that moving indices select from
abbrev pub own_size : Around → Measured → Use → Expr → ℕ
own_size r m AsValue a = value_size r m a
own_size r m (AsPlace moving) a = if is_place a && not (moving && names_constant r a) then 1 else value_size r m a

-- a function that is called, or a value of a type that is made
abbrev pub called_size : Around → Measured → Option Declared → Expr → ℕ
called_size r m None a = value_size r m a
called_size r m (Some x) a = if is_function x.named then m.call x else value_size r m a

-- parentheses and conversions that aren't written count nothing
unfoldable mutual
  pub expr_size : Expr → Around → Measured → Use → ℕ
  expr_size (e.Number p z wide) r m u = own_size r m u (e.Number p z wide)
  expr_size (e.Truth p t) r m u = own_size r m u (e.Truth p t)
  expr_size (e.Name q) r m u = own_size r m u (e.Name q)
  expr_size (e.Call' q sh args) r m u = called_size r m (find r q) (e.Call' q sh args) + row_size args r m
  expr_size (e.Construct' b sh sizes i args) r m u = value_size r m (e.Construct' b sh sizes i args) + row_size args r m
  expr_size (e.Paren' p sh (more_of-Expr a end_of-Expr)) r m u = expr_size a r m u
  expr_size (e.Field' p sh (more_of-Expr a end_of-Expr) w) r m u =
      let whole : Expr = e.Field' p sh (more_of-Expr a end_of-Expr) w in own_size r m u whole + expr_size a r m (part_use r u whole)
  expr_size (e.Index' p sh (more_of-Expr a end_of-Expr) i (more_of-Expr c end_of-Expr)) r m u =
      let whole : Expr = e.Index' p sh (more_of-Expr a end_of-Expr) i (more_of-Expr c end_of-Expr) in
      own_size r m u whole + expr_size a r m (part_use r u whole) + expr_size c r m AsValue
  expr_size (e.Unary' p op sh (more_of-Expr a end_of-Expr)) r m u = value_size r m (e.Unary' p op sh (more_of-Expr a end_of-Expr)) + expr_size a r m AsValue
  expr_size (e.Binary' p op sh (more_of-Expr a end_of-Expr) i (more_of-Expr c end_of-Expr)) r m u =
      value_size r m (e.Binary' p op sh (more_of-Expr a end_of-Expr) i (more_of-Expr c end_of-Expr)) + expr_size a r m AsValue + expr_size c r m AsValue
  expr_size (e.Choice' p sh (more_of-Expr t end_of-Expr) i (more_of-Expr a end_of-Expr) j (more_of-Expr c end_of-Expr)) r m u =
      value_size r m (e.Choice' p sh (more_of-Expr t end_of-Expr) i (more_of-Expr a end_of-Expr) j (more_of-Expr c end_of-Expr))
      + expr_size t r m AsValue + expr_size a r m AsValue + expr_size c r m AsValue

  pub row_size : {n : _} → Row_of-Expr n → Around → Measured → ℕ
  row_size end_of-Expr r m = 0
  row_size (more_of-Expr a others) r m = expr_size a r m AsValue + row_size others r m

abbrev pub exprs_size : List Expr → Around → Measured → ℕ
exprs_size [] r m = 0
exprs_size (a ∷ all) r m = expr_size a r m AsValue + exprs_size all r m

-- an expression that may be missing
abbrev pub optional_size : Option Expr → Around → Measured → ℕ
optional_size None r m = 0
optional_size (Some a) r m = expr_size a r m AsValue
