-- The types of expressions: docs/LANGUAGE.md, "Types". `type_of` gives the type that an expression has where nothing is wrong
-- with it, and none where that can't be told.
use Rattle.std.specs.Prelude.{ℕ, Bool, true, false, ◌&&◌, ◌≡◌, ◌⊎◌, if◌then◌else◌, ℤ, List, Option, Some, None, option_map, option_and_then, bytes_eq, Contains}
use Rattle.cm_tree.specs.declared.expr.Expr.{Expr, Row_of-Expr, end_of-Expr, more_of-Expr}
use Rattle.cm_tree.specs.declared.expr.Expr.TheVariants as e
use Rattle.cm_tree.specs.declared.type_expr.TypeExpr.{TypeExpr}
use Rattle.cm_tree.specs.declared.shared.Function.{Function as FunctionDecl}
use Rattle.cm_meaning.specs.Declared.{Named, Constant, Function, State, Endpoint, ValueParameter, Parameter, LocalConstant, LocalVariable, Counter, Home, Declared, is_type}
use Rattle.cm_meaning.specs.Scopes.{Around, around_home, around_function, find}
use Rattle.cm_meaning.specs.Sites.{Opens, Declares, Site}
use Rattle.cm_meaning.specs.Types.{CmType, Array, Record, FieldTypes, NoFields, Field, int32, int64, bool}
use Rattle.cm_meaning.specs.Conversions.{Valued, operated, operated_alone, chosen, known}
use Rattle.cm_meaning.specs.Constants.{Meaning, value_in, type_in, arrays, eval, eval_row, base_type, type_of_expr}

-- what is known of declarations: what they mean as constants and types, and the types of parameters and locals of bodies
pub record Knowledge : Type 0 where
  pub look : Declared → Meaning
  pub local : Declared → Option CmType

-- ---- parts of types

unfoldable pub field_type : List ℕ → FieldTypes → Option CmType
field_type n NoFields = None
field_type n (Field k t others) = if bytes_eq k n then Some t else field_type n others

abbrev pub member_type : List ℕ → CmType → Option CmType
member_type n (Record p fields) = field_type n fields
member_type n _ = None

abbrev pub element_type : CmType → Option CmType
element_type (Array n t) = Some t
element_type _ = None

abbrev pub both_types : (CmType → CmType → Option CmType) → Option CmType → Option CmType → Option CmType
both_types f a b = option_and_then (λ (x : CmType). option_and_then (f x) b) a

-- ---- what names have

-- a type that is written outside of bodies
abbrev pub type_at_home : List Declared → Knowledge → Declared → TypeExpr → Option CmType
type_at_home all k x ty = type_of_expr (around_home all x.home) k.look ty

abbrev pub type_of_value : Option Valued → Option CmType
type_of_value v = option_map (λ (x : Valued). x.ty) v

-- the type that a name has as a value
abbrev pub named_type : List Declared → Knowledge → Declared → Option CmType
named_type all k x = by x.named where
  by : Named → Option CmType
  by (Constant value) = type_of_value (value_in (Some (k.look x)))
  by (ValueParameter i ty) = type_of_value (value_in (Some (k.look x)))
  by (State (Some ty) value) = type_at_home all k x ty
  by (State None (Some value)) = type_of_value (eval (around_home all x.home) k.look value)
  by (Endpoint flow kind ty keys) = type_at_home all k x ty
  by (Parameter ty) = k.local x
  by (LocalConstant value) = k.local x
  by (LocalVariable ty value) = k.local x
  by (Counter ty) = k.local x
  by _ = None

abbrev pub result_type : List Declared → Knowledge → Declared → FunctionDecl → Option CmType
result_type all k x f = option_and_then (λ (ty : TypeExpr). type_of_expr (around_function all x f) k.look ty) f.result

-- what a call gives: the result of a function, or a value of the type that is called
abbrev pub called_type : List Declared → Knowledge → Declared → Option CmType
called_type all k x = by x.named where
  by : Named → Option CmType
  by (Function f) = result_type all k x f
  by n = if is_type n then type_in (Some (k.look x)) else None

-- ---- expressions

unfoldable pub type_of : Around → Knowledge → Expr → Option CmType
type_of r k (e.Number p z wide) = Some (if wide then int64 else int32)
type_of r k (e.Truth p t) = Some bool
type_of r k (e.Name q) = option_and_then (named_type r.all k) (find r q)
type_of r k (e.Call' q sh args) = option_and_then (called_type r.all k) (find r q)
type_of r k (e.Construct' b sh sizes i args) = arrays (base_type r k.look b) (eval_row r k.look sizes)
type_of r k (e.Paren' p sh (more_of-Expr a end_of-Expr)) = type_of r k a
type_of r k (e.Field' p sh (more_of-Expr a end_of-Expr) w) = option_and_then (member_type w.text) (type_of r k a)
type_of r k (e.Index' p sh (more_of-Expr a end_of-Expr) i c) = option_and_then element_type (type_of r k a)
type_of r k (e.Unary' p o sh (more_of-Expr a end_of-Expr)) = option_and_then (operated_alone o) (type_of r k a)
type_of r k (e.Binary' p o sh (more_of-Expr a end_of-Expr) i (more_of-Expr c end_of-Expr)) = both_types (operated o) (type_of r k a) (type_of r k c)
type_of r k (e.Choice' p sh t i (more_of-Expr a end_of-Expr) j (more_of-Expr c end_of-Expr)) = both_types chosen (type_of r k a) (type_of r k c)

-- ---- constants by their form

abbrev pub is_constant_name : Option Declared → Bool
is_constant_name None = false
is_constant_name (Some x) = by x.named where
  by : Named → Bool
  by (Constant value) = true
  by (ValueParameter i ty) = true
  by _ = false

abbrev pub is_type_name : Option Declared → Bool
is_type_name None = false
is_type_name (Some x) = is_type x.named

-- whether an expression is made of what constants are made of: literals, `let` names outside of bodies, value parameters,
-- operators, casts, constructors, fields and indices
unfoldable mutual
  pub is_constant : Around → Expr → Bool
  is_constant r (e.Number p z wide) = true
  is_constant r (e.Truth p t) = true
  is_constant r (e.Name q) = is_constant_name (find r q)
  is_constant r (e.Call' q sh args) = is_type_name (find r q) && are_constant r args
  is_constant r (e.Construct' b sh sizes i args) = are_constant r args
  is_constant r (e.Paren' p sh (more_of-Expr a end_of-Expr)) = is_constant r a
  is_constant r (e.Field' p sh (more_of-Expr a end_of-Expr) w) = is_constant r a
  is_constant r (e.Index' p sh (more_of-Expr a end_of-Expr) i (more_of-Expr c end_of-Expr)) = is_constant r a && is_constant r c
  is_constant r (e.Unary' p o sh (more_of-Expr a end_of-Expr)) = is_constant r a
  is_constant r (e.Binary' p o sh (more_of-Expr a end_of-Expr) i (more_of-Expr c end_of-Expr)) = is_constant r a && is_constant r c
  is_constant r (e.Choice' p sh (more_of-Expr t end_of-Expr) i (more_of-Expr a end_of-Expr) j (more_of-Expr c end_of-Expr)) =
      is_constant r t && (is_constant r a && is_constant r c)

  pub are_constant : Around → {n : _} → Row_of-Expr n → Bool
  are_constant r end_of-Expr = true
  are_constant r (more_of-Expr a others) = is_constant r a && are_constant r others

-- the number that a constant is, where it is one
abbrev pub known_number : Around → Knowledge → Expr → Option ℤ
known_number r k a = option_and_then known (eval r k.look a)

-- ---- the types of locals

-- the type with which a local is declared: the one that is written, where `start` is round it, or else that of its value
abbrev pub declared_type : Around → Around → Knowledge → Named → Option CmType
declared_type start r k (LocalConstant value) = type_of r k value
declared_type start r k (LocalVariable (Some ty) value) = type_of_expr start k.look ty
declared_type start r k (LocalVariable None (Some value)) = type_of r k value
declared_type start r k (Counter ty) = type_of_expr start k.look ty
declared_type start r k _ = None

-- in a namespace, or in the processor or graph at home
abbrev pub IsAtHome : Home → Home → Type 0
IsAtHome home other = (other.unit ≡ None) ⊎ (other ≡ home)

-- the parameters and locals of these sites, in namespaces and at home, have the types with which they are declared
pub record KnowsLocals (sites : List Site) (home : Home) (k : Knowledge) : Type 0 where
  pub locals : (s : Site) → (start : Around) → (x : Declared) → Contains sites s → IsAtHome home s.around.home → s.part ≡ Declares start x
      → k.local x ≡ declared_type start s.around k x.named
  pub parameters : (s : Site) → (names : List Declared) → (x : Declared) → (ty : TypeExpr)
      → Contains sites s → IsAtHome home s.around.home → s.part ≡ Opens names → Contains names x → x.named ≡ Parameter ty → k.local x ≡ type_of_expr s.around k.look ty
