-- When the expressions of a unit are typed: docs/LANGUAGE.md, "Types", "Conversions" and "Operators". `type_of` says which
-- type a typed expression has.
use Rattle.std.specs.Prelude.{ℕ, pos, ◌≡◌, ◌≢◌, ◌<◌, ◌≤◌, ◌≤ℤ◌, ◌<ℤ◌, ◌⊎◌, ◌^◌, Bool, true, false, ◌||◌, if◌then◌else◌, List, [], ◌∷◌, length, map, All, IsSome, IsSomeAnd, slice_get, FitsSigned}
use Rattle.std.specs.Int.{w32, w64}
use Rattle.cm_base.specs.declared.host.Scalar.{Scalar}
use Rattle.cm_base.specs.declared.host.Scalar.TheVariants as kinds
use Rattle.cm_base.specs.Parts.{is_input, is_event}
use Rattle.cm_base.specs.Scripts.{IsOfKind}
use Rattle.cm_core.specs.declared.core_type.BaseType.{BaseType}
use Rattle.cm_core.specs.declared.core_type.BaseType.TheVariants as base
use Rattle.cm_core.specs.declared.core_type.CoreType.{CoreType}
use Rattle.cm_core.specs.declared.core_type.StructType.{StructType}
use Rattle.cm_core.specs.declared.operator.UnaryOp.{UnaryOp}
use Rattle.cm_core.specs.declared.operator.UnaryOp.TheVariants.{Negate, Not, Invert}
use Rattle.cm_core.specs.declared.operator.BinaryOp.{BinaryOp}
use Rattle.cm_core.specs.declared.operator.BinaryOp.TheVariants as op
use Rattle.cm_core.specs.declared.program.End.{End}
use Rattle.cm_core.specs.declared.unit.Unit.{Unit as CoreUnit}
use Rattle.cm_core.specs.declared.unit.Var.{Var}
use Rattle.cm_core.specs.declared.unit.Function.{Function}
use Rattle.cm_core.specs.Code.{Expr, Number, Truth, Variable, Input, Constant, Field, Index, Call, Construct, Convert, Unary, Binary, Logic, Choose, Exprs, Last, With}
use Rattle.cm_core.specs.Types.{count_of, fields_of, element_type, length_of, scalar_type, truth_type, type_of, is_constant}
use Rattle.cm_core.specs.Eval.{number_of, constant_of}

-- ---- types

-- 1 to 2^31 - 1
abbrev pub IsSize : ℕ → Type 0
IsSize n = (1 ≤ n) × (n < 2 ^ 31)

abbrev pub IsKind : Scalar → Type 0
IsKind (kinds.Wrap n) = IsSize n
IsKind (kinds.Clamp n) = IsSize n
IsKind _ = Unit {0}

-- a struct is one of the first so many
abbrev pub IsBase : ℕ → BaseType → Type 0
IsBase structs (base.Scalar kind) = IsKind kind
IsBase structs (base.Struct s) = s < structs

-- a type over the first so many structs has at most 1,048,576 scalars
pub record IsTypeOver (structs : List StructType) (before : ℕ) (ty : CoreType) : Type 0 where
  pub base : IsBase before ty.base
  pub lengths : All IsSize ty.lengths
  pub few : count_of structs ty ≤ 1048576

abbrev pub IsType : List StructType → CoreType → Type 0
IsType structs ty = IsTypeOver structs (length structs) ty

-- ---- kinds

abbrev pub IsWide : Scalar → Type 0
IsWide kind = (kind ≡ kinds.Int32) ⊎ (kind ≡ kinds.Int64)

abbrev pub is_number : Scalar → Bool
is_number kinds.Bool = false
is_number _ = true

abbrev pub IsNumber : CoreType → Type 0
IsNumber ty = (kind : Scalar) × (ty ≡ scalar_type kind) × (is_number kind ≡ true)

-- implicit conversions between scalars, but for those of constants
abbrev pub widens : Scalar → Scalar → Bool
widens kinds.Bool to = false
widens from kinds.Bool = true
widens kinds.Int32 kinds.Int64 = true
widens (kinds.Wrap n) kinds.Int32 = true
widens (kinds.Wrap n) kinds.Int64 = true
widens (kinds.Clamp n) kinds.Int32 = true
widens (kinds.Clamp n) kinds.Int64 = true
widens _ _ = false

-- a constant number is converted to any number type that holds its value
abbrev pub ConvertsTo : List StructType → CoreUnit → Expr → Scalar → Scalar → Type 0
ConvertsTo structs unit e from to =
    (widens from to ≡ true)
    ⊎ (is_constant e ≡ true) × (is_number from ≡ true) × (is_number to ≡ true) × IsOfKind to (number_of (constant_of structs unit e))

-- ---- operators

abbrev pub is_bitwise : BinaryOp → Bool
is_bitwise op.BitAnd = true
is_bitwise op.BitOr = true
is_bitwise op.BitXor = true
is_bitwise _ = false

abbrev pub is_equality : BinaryOp → Bool
is_equality op.Equal = true
is_equality op.NotEqual = true
is_equality _ = false

abbrev pub is_shift : BinaryOp → Bool
is_shift op.ShiftLeft = true
is_shift op.ShiftRight = true
is_shift op.ShiftRightZero = true
is_shift _ = false

abbrev pub is_division : BinaryOp → Bool
is_division op.Divide = true
is_division op.Remainder = true
is_division _ = false

abbrev pub TakesKind : UnaryOp → Scalar → Type 0
TakesKind Negate kind = IsWide kind
TakesKind Not kind = kind ≡ kinds.Bool
TakesKind Invert kind = IsWide kind

-- an operator computes in `int32` or `int64`, and in some cases in `bool`
abbrev pub ComputesIn : BinaryOp → Scalar → Type 0
ComputesIn op kind = IsWide kind ⊎ (kind ≡ kinds.Bool) × ((is_bitwise op || is_equality op) ≡ true)

-- the amount of a shift may have the other width
abbrev pub IsRight : BinaryOp → Scalar → CoreType → Type 0
IsRight op kind ty = (ty ≡ scalar_type kind) ⊎ (is_shift op ≡ true) × ((wide : Scalar) × IsWide wide × (ty ≡ scalar_type wide))

-- a divisor is a constant other than 0
abbrev pub IsDivisor : List StructType → CoreUnit → Expr → Type 0
IsDivisor structs unit e = (is_constant e ≡ true) × (number_of (constant_of structs unit e) ≢ pos 0)

abbrev pub Divides : List StructType → CoreUnit → BinaryOp → Expr → Type 0
Divides structs unit op e = is_division op ≡ true → IsDivisor structs unit e

-- ---- parts

abbrev pub IsStruct : CoreType → Type 0
IsStruct ty = (s : ℕ) × (ty.base ≡ base.Struct s) × (ty.lengths ≡ [])

-- an index that is a constant is one of an element
abbrev pub IsIndex : List StructType → CoreUnit → ℕ → Expr → Type 0
IsIndex structs unit n i = is_constant i ≡ true → (pos 0 ≤ℤ number_of (constant_of structs unit i)) × (number_of (constant_of structs unit i) <ℤ pos n)

abbrev pub types_of : List StructType → CoreUnit → Exprs → List CoreType
types_of structs unit Last = []
types_of structs unit (With e es) = type_of structs unit e ∷ types_of structs unit es

-- all of this type
abbrev pub AreAll : CoreType → List CoreType → Type 0
AreAll ty types = All (λ t. t ≡ ty) types

abbrev pub MakesBase : List StructType → BaseType → List CoreType → Type 0
MakesBase structs (base.Scalar kind) types = (from : Scalar) × (types ≡ scalar_type from ∷ [])
MakesBase structs (base.Struct s) types = types ≡ fields_of structs (base.Struct s)

-- one value for each element, or one for all
abbrev pub MakesArray : CoreType → ℕ → List CoreType → Type 0
MakesArray element n types = AreAll element types × ((length types ≡ n) ⊎ (length types ≡ 1))

abbrev pub MakesBy : List StructType → CoreType → List ℕ → List CoreType → Type 0
MakesBy structs ty [] types = MakesBase structs ty.base types
MakesBy structs ty (n ∷ ns) types = MakesArray (element_type ty) n types

-- what a cast or constructor takes: nothing, or the values that its type asks for
abbrev pub Makes : List StructType → CoreType → List CoreType → Type 0
Makes structs ty types = (types ≡ []) ⊎ MakesBy structs ty ty.lengths types

-- ---- expressions

-- where code stands: the variables and functions that it may name
pub record Names : Type 0 where
  pub structs : List StructType
  pub unit : CoreUnit
  pub owns : ℕ → Bool
  pub calls : ℕ → Bool

abbrev pub IsReadable : End → Type 0
IsReadable end = (is_input end.flow ≡ true) × (is_event end.kind ≡ false)

abbrev pub param_types : Function → List CoreType
param_types f = map (λ (p : Var). p.ty) f.params

-- a function that may be called and takes these types
abbrev pub TakesTypes : Names → ℕ → List CoreType → Type 0
TakesTypes n f types = (n.calls f ≡ true) × IsSomeAnd (slice_get n.unit.functions f) (λ function. types ≡ param_types function)

abbrev pub HasResult : Names → ℕ → Type 0
HasResult n f = IsSomeAnd (slice_get n.unit.functions f) (λ function. IsSome function.result)

abbrev pub type_in : Names → Expr → CoreType
type_in n e = type_of n.structs n.unit e

abbrev mutual
  pub IsTyped : Names → Expr → Type 0
  IsTyped n (Number value wide) = FitsSigned (if wide then w64 else w32) value
  IsTyped n (Truth value) = Unit {0}
  IsTyped n (Variable x) = n.owns x ≡ true
  IsTyped n (Input e) = IsSomeAnd (slice_get n.unit.ends e) IsReadable
  IsTyped n (Constant c) = c < length n.unit.constants
  IsTyped n (Field a k) = IsTyped n a × IsStruct (type_in n a) × (k < length (fields_of n.structs (type_in n a).base))
  IsTyped n (Index a i) =
      IsTyped n a × (0 < length (type_in n a).lengths) × IsTyped n i × IsNumber (type_in n i) × IsIndex n.structs n.unit (length_of (type_in n a)) i
  IsTyped n (Call f es) = AreTyped n es × TakesTypes n f (types_of n.structs n.unit es) × HasResult n f
  IsTyped n (Construct ty es) = IsType n.structs ty × AreTyped n es × Makes n.structs ty (types_of n.structs n.unit es)
  IsTyped n (Convert to a) = IsTyped n a × ((from : Scalar) × (type_in n a ≡ scalar_type from) × ConvertsTo n.structs n.unit a from to)
  IsTyped n (Unary op kind a) = IsTyped n a × TakesKind op kind × (type_in n a ≡ scalar_type kind)
  IsTyped n (Binary op kind a b) =
      IsTyped n a × IsTyped n b × ComputesIn op kind × (type_in n a ≡ scalar_type kind) × IsRight op kind (type_in n b) × Divides n.structs n.unit op b
  IsTyped n (Logic op a b) = IsTyped n a × IsTyped n b × (type_in n a ≡ truth_type) × (type_in n b ≡ truth_type)
  IsTyped n (Choose c a b) = IsTyped n c × IsTyped n a × IsTyped n b × (type_in n c ≡ truth_type) × (type_in n a ≡ type_in n b)

  pub AreTyped : Names → Exprs → Type 0
  AreTyped n Last = Unit {0}
  AreTyped n (With e es) = IsTyped n e × AreTyped n es
