-- The types of what a unit names, and of its expressions: docs/LANGUAGE.md, "Types". A value is the list of its scalars from
-- left to right, a truth value being 0 or 1.
use Rattle.std.specs.Prelude.{ℕ, zero, suc, ◌*◌, Bool, true, false, ◌&&◌, List, [], ◌∷◌, ◌++◌, map, take, drop, replicate, sum_by, Option, None, unwrap_or, slice_index_or, if◌then◌else◌, ℤ, pos}
use Rattle.std.specs.List.{flat_map}
use Rattle.cm_base.specs.declared.host.Scalar.{Scalar}
use Rattle.cm_base.specs.declared.host.Scalar.TheVariants as kinds
use Rattle.cm_core.specs.declared.core_type.BaseType.{BaseType}
use Rattle.cm_core.specs.declared.core_type.BaseType.TheVariants as base
use Rattle.cm_core.specs.declared.core_type.CoreType.{CoreType}
use Rattle.cm_core.specs.declared.core_type.StructType.{StructType}
use Rattle.cm_core.specs.declared.operator.BinaryOp.{BinaryOp}
use Rattle.cm_core.specs.declared.operator.BinaryOp.TheVariants as op
use Rattle.cm_core.specs.declared.unit.Unit.{Unit as CoreUnit}
use Rattle.cm_core.specs.Code.{Expr, Number, Truth, Variable, Input, Constant, Field, Index, Call, Construct, Convert, Unary, Binary, Logic, Choose, Exprs, Last, With}

-- ---- scalars of a type

-- all elements of nested arrays
abbrev pub elements : List ℕ → ℕ
elements [] = 1
elements (n ∷ ns) = n * elements ns

-- how many scalars a base type has, where those of the structs are known
abbrev pub base_count : List ℕ → BaseType → ℕ
base_count known (base.Scalar kind) = 1
base_count known (base.Struct s) = slice_index_or known s 0

abbrev pub known_count : List ℕ → CoreType → ℕ
known_count known ty = elements ty.lengths * base_count known ty.base

-- how many scalars each struct has, which names only structs before it
abbrev pub counts_after : List ℕ → List StructType → List ℕ
counts_after known [] = known
counts_after known (s ∷ others) = counts_after (known ++ sum_by (known_count known) s.fields ∷ []) others

-- how many scalars a type has
abbrev pub count_of : List StructType → CoreType → ℕ
count_of structs ty = known_count (counts_after [] structs) ty

abbrev pub base_shape : List (List Scalar) → BaseType → List Scalar
base_shape known (base.Scalar kind) = kind ∷ []
base_shape known (base.Struct s) = slice_index_or known s []

-- as many lists, one after another
abbrev pub repeated : {A : Type 0} → ℕ → List A → List A
repeated zero xs = []
repeated (suc n) xs = xs ++ repeated n xs

abbrev pub known_shape : List (List Scalar) → CoreType → List Scalar
known_shape known ty = repeated (elements ty.lengths) (base_shape known ty.base)

abbrev pub shapes_after : List (List Scalar) → List StructType → List (List Scalar)
shapes_after known [] = known
shapes_after known (s ∷ others) = shapes_after (known ++ flat_map (known_shape known) s.fields ∷ []) others

-- the kinds of the scalars of a type
abbrev pub shape_of : List StructType → CoreType → List Scalar
shape_of structs ty = known_shape (shapes_after [] structs) ty

-- zero in all parts
abbrev pub zeros : ℕ → List ℤ
zeros count = replicate count (pos 0)

abbrev pub zero_of : List StructType → CoreType → List ℤ
zero_of structs ty = zeros (count_of structs ty)

-- ---- parts of a type

abbrev pub scalar_type : Scalar → CoreType
scalar_type kind = record { base = base.Scalar kind; lengths = [] }

abbrev pub truth_type : CoreType
truth_type = scalar_type kinds.Bool

abbrev pub fields_of : List StructType → BaseType → List CoreType
fields_of structs (base.Scalar kind) = []
fields_of structs (base.Struct s) = (slice_index_or structs s (record { fields = [] })).fields

-- the type of a field of a struct, and how many scalars stand before it
abbrev pub field_type : List StructType → CoreType → ℕ → CoreType
field_type structs ty k = slice_index_or (fields_of structs ty.base) k truth_type

abbrev pub field_start : List StructType → CoreType → ℕ → ℕ
field_start structs ty k = sum_by (count_of structs) (take k (fields_of structs ty.base))

-- the type of the elements of an array, and how many there are
abbrev pub element_type : CoreType → CoreType
element_type ty = record ty { lengths = drop 1 ty.lengths }

abbrev pub length_of : CoreType → ℕ
length_of ty = slice_index_or ty.lengths 0 1

-- ---- types of names and expressions

-- a variable is one of the state, or else a local
abbrev pub variable_type : CoreUnit → ℕ → CoreType
variable_type unit x = slice_index_or (map (λ v. v.ty) unit.state ++ map (λ l. l.ty) unit.locals) x truth_type

abbrev pub end_type : CoreUnit → ℕ → CoreType
end_type unit e = slice_index_or (map (λ end. end.ty) unit.ends) e truth_type

abbrev pub constant_type : CoreUnit → ℕ → CoreType
constant_type unit c = slice_index_or (map (λ c. c.ty) unit.constants) c truth_type

-- what a function gives, if anything
abbrev pub result_type : CoreUnit → ℕ → Option CoreType
result_type unit f = slice_index_or (map (λ f. f.result) unit.functions) f None

abbrev pub compares : BinaryOp → Bool
compares op.Equal = true
compares op.NotEqual = true
compares op.Less = true
compares op.LessOrEqual = true
compares op.Greater = true
compares op.GreaterOrEqual = true
compares _ = false

-- what an operator with two operands gives
abbrev pub binary_kind : BinaryOp → Scalar → Scalar
binary_kind op kind = if compares op then kinds.Bool else kind

-- the type of an expression; a call of a function without a result isn't asked for
abbrev pub type_of : List StructType → CoreUnit → Expr → CoreType
type_of structs unit (Number value wide) = scalar_type (if wide then kinds.Int64 else kinds.Int32)
type_of structs unit (Truth value) = truth_type
type_of structs unit (Variable x) = variable_type unit x
type_of structs unit (Input e) = end_type unit e
type_of structs unit (Constant c) = constant_type unit c
type_of structs unit (Field a k) = field_type structs (type_of structs unit a) k
type_of structs unit (Index a i) = element_type (type_of structs unit a)
type_of structs unit (Call f es) = unwrap_or (result_type unit f) truth_type
type_of structs unit (Construct ty es) = ty
type_of structs unit (Convert kind a) = scalar_type kind
type_of structs unit (Unary op kind a) = scalar_type kind
type_of structs unit (Binary op kind a b) = scalar_type (binary_kind op kind)
type_of structs unit (Logic op a b) = truth_type
type_of structs unit (Choose c a b) = type_of structs unit a

-- ---- forms of expressions

-- whether an expression is a constant
abbrev mutual
  pub is_constant : Expr → Bool
  is_constant (Number value wide) = true
  is_constant (Truth value) = true
  is_constant (Variable x) = false
  is_constant (Input e) = false
  is_constant (Constant c) = true
  is_constant (Field a k) = is_constant a
  is_constant (Index a i) = is_constant a && is_constant i
  is_constant (Call f es) = false
  is_constant (Construct ty es) = are_constant es
  is_constant (Convert kind a) = is_constant a
  is_constant (Unary op kind a) = is_constant a
  is_constant (Binary op kind a b) = is_constant a && is_constant b
  is_constant (Logic op a b) = is_constant a && is_constant b
  is_constant (Choose c a b) = is_constant c && (is_constant a && is_constant b)

  pub are_constant : Exprs → Bool
  are_constant Last = true
  are_constant (With e es) = is_constant e && are_constant es

-- whether fields and indices are taken of a name
abbrev pub is_place : Expr → Bool
is_place (Variable x) = true
is_place (Input e) = true
is_place (Constant c) = true
is_place (Field a k) = is_place a
is_place (Index a i) = is_place a
is_place _ = false
