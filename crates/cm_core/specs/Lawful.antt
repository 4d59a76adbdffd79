-- When a program is lawful: its parts fit together, each number in it names a part that is there, its types are those of the
-- language, and its code is typed. Faults of its graphs are told apart, in `GraphFaults`.
use Rattle.std.specs.Prelude.{ℕ, suc, ◌+◌, ◌-◌, ◌≡◌, ◌<◌, ◌≤◌, ◌⊎◌, Bool, true, false, ◌||◌, List, [], ◌∷◌, length, map, All, Option, Some, None, nat_eq, nat_lt, slice_get, slice_index_or, if◌then◌else◌}
use Rattle.std.specs.List.{IsDistinct}
use Rattle.cm_base.specs.declared.host.Flow.TheVariants.{Input as Incoming}
use Rattle.cm_base.specs.declared.host.Kind.TheVariants.{Stream, Event}
use Rattle.cm_base.specs.declared.host.Scalar.{Scalar}
use Rattle.cm_base.specs.Scripts.{HasShape}
use Rattle.cm_core.specs.declared.core_type.BaseType.TheVariants as base
use Rattle.cm_core.specs.declared.core_type.CoreType.{CoreType}
use Rattle.cm_core.specs.declared.core_type.StructType.{StructType}
use Rattle.cm_core.specs.declared.expr.CoreExpr.{CoreExpr}
use Rattle.cm_core.specs.declared.program.Program.{Program}
use Rattle.cm_core.specs.declared.program.End.{End}
use Rattle.cm_core.specs.declared.unit.Unit.{Unit as CoreUnit}
use Rattle.cm_core.specs.declared.unit.Var.{Var}
use Rattle.cm_core.specs.declared.unit.Local.{Local}
use Rattle.cm_core.specs.declared.unit.Constant.{Constant}
use Rattle.cm_core.specs.declared.unit.Function.{Function}
use Rattle.cm_core.specs.declared.unit.Handler.{Handler}
use Rattle.cm_core.specs.declared.unit.Home.{Home}
use Rattle.cm_core.specs.declared.unit.Home.TheVariants as home
use Rattle.cm_core.specs.Code.{Stmt, Nothing, Block, expr_of, stmt_of, body_of}
use Rattle.cm_core.specs.Consistent.{IsConsistent}
use Rattle.cm_core.specs.Types.{shape_of, scalar_type, variable_type, type_of, is_constant}
use Rattle.cm_core.specs.Calls.{is_home}
use Rattle.cm_core.specs.Typing.{IsTypeOver, IsType, IsWide, Names, IsTyped}
use Rattle.cm_core.specs.Bodies.{Standing, Becomes, IsStmt, returns, nesting, expr_nesting}
use Rattle.cm_core.specs.Uses.{Uses}

-- ---- types

-- each struct names only structs before it
abbrev pub AreStructs : List StructType → ℕ → List StructType → Type 0
AreStructs structs before [] = Unit {0}
AreStructs structs before (s ∷ others) = All (IsTypeOver structs before) s.fields × AreStructs structs (suc before) others

-- a type with its scalars
abbrev pub HasType : List StructType → CoreType → List Scalar → Type 0
HasType structs ty shape = IsType structs ty × (shape ≡ shape_of structs ty)

-- streams carry `int32`, `int64` and arrays of these
abbrev pub IsStreamType : CoreType → Type 0
IsStreamType ty = (kind : Scalar) × (ty.base ≡ base.Scalar kind) × IsWide kind

pub record IsEnd (structs : List StructType) (end : End) : Type 0 where
  pub type : HasType structs end.ty end.shape
  pub stream : end.kind ≡ Stream → IsStreamType end.ty

-- ---- names

-- where the code of a body may have its locals: main also keeps some
abbrev pub lives_in : Home → Home → Bool
lives_in home.Main at = is_home home.Main at || is_home home.Kept at
lives_in body at = is_home body at

abbrev pub owns_local : Home → List Local → ℕ → Bool
owns_local body locals k = lives_in body (slice_index_or (map (λ (l : Local). l.home) locals) k home.Init)

-- code names the state and the locals of its own body
abbrev pub owns : CoreUnit → Home → ℕ → Bool
owns unit body x =
    if nat_lt x (length unit.state) then true
    else (if nat_lt x (length unit.state + length unit.locals) then owns_local body unit.locals (x - length unit.state) else false)

-- what the code of a body may name, which calls functions from this number on
abbrev pub names_in : List StructType → CoreUnit → Home → ℕ → Names
names_in structs unit body from =
    record { structs = structs; unit = unit; owns = owns unit body; calls = λ f. if nat_lt f from then false else nat_lt f (length unit.functions) }

abbrev pub standing : List StructType → CoreUnit → Home → ℕ → Option CoreType → Standing
standing structs unit body from result =
    record { names = names_in structs unit body from; result = result; looped = false; advances = is_home body home.Main; writes = true }

-- the parameters, from this variable on, are locals of the body
abbrev pub AreParams : CoreUnit → Home → ℕ → List Var → Type 0
AreParams unit body x [] = Unit {0}
AreParams unit body x (p ∷ ps) =
    (length unit.state ≤ x) × (owns unit body x ≡ true) × (variable_type unit x ≡ p.ty) × AreParams unit body (suc x) ps

-- ---- bodies

-- a body is a block, or isn't there
abbrev pub is_whole : Stmt → Bool
is_whole Nothing = true
is_whole (Block ss) = true
is_whole _ = false

-- code is typed, and at most 544 statements and operators that choose stand inside one another
pub record IsBody (at : Standing) (body : Stmt) : Type 0 where
  pub whole : is_whole body ≡ true
  pub typed : IsStmt at body
  pub shallow : nesting body ≤ 544

-- a body with a result surely returns
abbrev pub Returns : Option CoreType → Stmt → Type 0
Returns None body = Unit {0}
Returns (Some ty) body = returns body ≡ true

pub record IsFunction (structs : List StructType) (unit : CoreUnit) (f : ℕ) (function : Function) : Type 0 where
  pub params : AreParams unit (home.Function f) function.first function.params
  pub types : All (λ (p : Var). HasType structs p.ty p.shape) function.params
  pub result : (ty : CoreType) → function.result ≡ Some ty → IsType structs ty
  -- it calls only functions of higher numbers
  pub body : IsBody (standing structs unit (home.Function f) (suc f) function.result) (stmt_of function.body)
  pub returns : Returns function.result (stmt_of function.body)

-- what an event carries becomes the parameter of its handler
abbrev pub IsTaken : CoreType → CoreType → Type 0
IsTaken from to = (from ≡ to) ⊎ ((a : Scalar) × (b : Scalar) × (from ≡ scalar_type a) × (to ≡ scalar_type b) × Becomes a b)

pub record IsHandler (structs : List StructType) (unit : CoreUnit) (k : ℕ) (handler : Handler) : Type 0 where
  pub end : End
  pub found : slice_get unit.ends handler.end ≡ Some end
  pub flow : end.flow ≡ Incoming
  pub kind : end.kind ≡ Event
  pub param : AreParams unit (home.Handler k) handler.first (handler.param ∷ [])
  pub type : HasType structs handler.param.ty handler.param.shape
  pub taken : IsTaken end.ty handler.param.ty
  pub body : IsBody (standing structs unit (home.Handler k) 0 None) (stmt_of handler.body)

-- an initial value is a constant of the variable's type
pub record IsFirst (structs : List StructType) (unit : CoreUnit) (ty : CoreType) (e : CoreExpr) : Type 0 where
  pub typed : IsTyped (names_in structs unit home.Init (length unit.functions)) (expr_of e)
  pub type : type_of structs unit (expr_of e) ≡ ty
  pub constant : is_constant (expr_of e) ≡ true
  pub shallow : expr_nesting (expr_of e) ≤ 544

abbrev pub StartsWith : List StructType → CoreUnit → CoreType → Option CoreExpr → Type 0
StartsWith structs unit ty None = Unit {0}
StartsWith structs unit ty (Some e) = IsFirst structs unit ty e

pub record IsVar (structs : List StructType) (unit : CoreUnit) (var : Var) : Type 0 where
  pub type : HasType structs var.ty var.shape
  pub first : StartsWith structs unit var.ty var.first

pub record IsConstant (structs : List StructType) (constant : Constant) : Type 0 where
  pub type : HasType structs constant.ty constant.shape
  pub value : HasShape constant.shape constant.value

-- code that calls only these functions and writes nothing
abbrev pub IsSilentCode : (ℕ → Bool) → Stmt → Type 0
IsSilentCode reached body = Uses (λ f. reached f ≡ true) (λ e. ⊥) body

-- `init` writes nothing, nor does a function that it reaches
pub record IsSilent (unit : CoreUnit) : Type 0 where
  pub reached : ℕ → Bool
  pub first : IsSilentCode reached (body_of unit.init)
  pub further : (f : ℕ) (function : Function) → slice_get unit.functions f ≡ Some function → reached f ≡ true → IsSilentCode reached (stmt_of function.body)

-- ---- locals in order

-- first those that are kept, then those of `init`, `main` and the handlers, and then those of the functions in order
abbrev pub home_rank : Home → ℕ
home_rank home.Kept = 0
home_rank home.Init = 1
home_rank home.Main = 1
home_rank (home.Handler k) = 1
home_rank (home.Function f) = f + 2

abbrev pub AreInOrder : ℕ → List Local → Type 0
AreInOrder rank [] = Unit {0}
AreInOrder rank (l ∷ locals) = (rank ≤ home_rank l.home) × AreInOrder (home_rank l.home) locals

-- a home is that of a body that is there
abbrev pub IsHome : CoreUnit → Home → Type 0
IsHome unit (home.Function f) = f < length unit.functions
IsHome unit (home.Handler k) = k < length unit.handlers
IsHome unit _ = Unit {0}

pub record IsLocal (structs : List StructType) (unit : CoreUnit) (local : Local) : Type 0 where
  pub type : HasType structs local.ty local.shape
  pub home : IsHome unit local.home

-- ---- the whole

pub record IsUnit (structs : List StructType) (unit : CoreUnit) : Type 0 where
  pub ends : All (IsEnd structs) unit.ends
  pub state : All (IsVar structs unit) unit.state
  pub locals : All (IsLocal structs unit) unit.locals
  pub order : AreInOrder 0 unit.locals
  pub constants : All (IsConstant structs) unit.constants
  pub functions : (f : ℕ) (function : Function) → slice_get unit.functions f ≡ Some function → IsFunction structs unit f function
  pub handlers : (k : ℕ) (handler : Handler) → slice_get unit.handlers k ≡ Some handler → IsHandler structs unit k handler
  -- an input has one handler
  pub once : IsDistinct nat_eq (map (λ (h : Handler). h.end) unit.handlers)
  pub init : IsBody (standing structs unit home.Init 0 None) (body_of unit.init)
  pub silent : IsSilent unit
  pub main : IsBody (standing structs unit home.Main 0 None) (body_of unit.main)
  pub latency : unit.latency ≤ 65536
  pub factor_least : 1 ≤ unit.factor
  pub factor_most : unit.factor ≤ 512

pub record IsLawful (p : Program) : Type 0 where
  pub consistent : IsConsistent p
  pub structs : AreStructs p.structs 0 p.structs
  pub units : All (IsUnit p.structs) p.units
  pub ends : All (IsEnd p.structs) p.ends
