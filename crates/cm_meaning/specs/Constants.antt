-- The values of constants and the types that are written: docs/LANGUAGE.md, "Constants". What a name means comes from
-- `look`; a `look` that gives each declaration what its own text means is a meaning of the patch.
use Rattle.std.specs.Prelude.{ℕ, zero, suc, ◌^◌, ◌==◌, ◌≡◌, ◌⊎◌, nat_le, nat_lt, ◌&&◌, if◌then◌else◌, ℤ, pos, negsuc, List, [], ◌∷◌, length, map, slice_get, Option, Some, None, option_map, option_and_then, bytes_eq, Contains}
use Rattle.cm_tree.specs.declared.path.Path.{Path}
use Rattle.cm_tree.specs.declared.path.Word.{Word}
use Rattle.cm_tree.specs.declared.expr.Expr.{Expr, Row_of-Expr, end_of-Expr, more_of-Expr}
use Rattle.cm_tree.specs.declared.expr.Base.{Base}
use Rattle.cm_tree.specs.declared.expr.Expr.TheVariants as e
use Rattle.cm_tree.specs.declared.expr.Base.TheVariants as b
use Rattle.cm_tree.specs.declared.type_expr.TypeExpr.{TypeExpr}
use Rattle.cm_tree.specs.declared.type_expr.TypeExpr.TheVariants as y
use Rattle.cm_tree.specs.declared.shared.Fields.{Fields}
use Rattle.cm_tree.specs.declared.file.File.{File}
use Rattle.cm_base.specs.declared.host.Scalar.TheVariants as kind
use Rattle.cm_meaning.specs.Declared.{Named, Constant, Using, Struct, TypeParameter, ValueParameter, Home, Declared}
use Rattle.cm_meaning.specs.Scopes.{Around, patch_names, around_home, find}
use Rattle.cm_meaning.specs.PatchSites.{all_names}
use Rattle.cm_meaning.specs.Types.{CmType, Single, Array, Record, FieldTypes, NoFields, Field, int32, int64, bool, Value, Number, Truth, Many, Values, NoValues, Then, copies, zero_of, number_of}
use Rattle.cm_meaning.specs.Conversions.{Valued, is_number, cast, fitted, with_type, operate, operate_alone, choose}

-- what a name means as a constant or a type
pub data Meaning : Type 0 where
  AsValue : (value : Valued) → Meaning
  AsType : (ty : CmType) → Meaning
  Nothing : Meaning

abbrev pub value_in : Option Meaning → Option Valued
value_in (Some (AsValue v)) = Some v
value_in _ = None

abbrev pub type_in : Option Meaning → Option CmType
type_in (Some (AsType t)) = Some t
type_in _ = None

abbrev pub as_value : Option Valued → Meaning
as_value None = Nothing
as_value (Some v) = AsValue v

abbrev pub as_type : Option CmType → Meaning
as_type None = Nothing
as_type (Some t) = AsType t

-- what a path means at a place
abbrev pub meant_by : Around → (Declared → Meaning) → Path → Option Meaning
meant_by r look q = option_map look (find r q)

-- ---- counts

-- 1 to 2^31 - 1
abbrev pub count_number : ℤ → Option ℕ
count_number (pos n) = if nat_le 1 n && nat_lt n (2 ^ 31) then Some n else None
count_number (negsuc n) = None

-- how many elements an array has, or values a `wrap` or `clamp`: a constant number
abbrev pub count_in : Option Valued → Option ℕ
count_in v = option_and_then (λ (x : Valued). if is_number x.ty then option_and_then count_number (number_of x.value) else None) v

-- T[a][b] is `a` elements of T[b]
unfoldable pub arrays : Option CmType → List (Option Valued) → Option CmType
arrays t [] = t
arrays t (n ∷ sizes) = option_and_then (λ (k : ℕ). option_map (Array k) (arrays t sizes)) (count_in n)

-- ---- values that are made of others

unfoldable pub all_there : List (Option Valued) → Option (List Valued)
all_there [] = Some []
all_there (v ∷ vs) = option_and_then (λ (x : Valued). option_map (λ (xs : List Valued). x ∷ xs) (all_there vs)) v

-- one value for each element
unfoldable pub elements : CmType → List Valued → Option Values
elements t [] = Some NoValues
elements t (v ∷ vs) = option_and_then (λ (x : Value). option_map (Then x) (elements t vs)) (fitted t v)

-- one value for each field
unfoldable pub field_values : FieldTypes → List Valued → Option Values
field_values NoFields [] = Some NoValues
field_values (Field n t fields) (v ∷ vs) = option_and_then (λ (x : Value). option_map (Then x) (field_values fields vs)) (fitted t v)
field_values _ _ = None

-- T() is zero; a number or truth value is converted; an array takes one value for all elements, or one for each
unfoldable pub constructed : CmType → List Valued → Option Value
constructed t [] = Some (zero_of t)
constructed (Single k) (v ∷ []) = cast (Single k) v.value
constructed (Array n t) (v ∷ []) = option_map (λ (x : Value). Many (copies n x)) (fitted t v)
constructed (Array n t) vs = if n == length vs then option_map Many (elements t vs) else None
constructed (Record p fields) vs = option_map Many (field_values fields vs)
constructed _ _ = None

abbrev pub made : Option CmType → List (Option Valued) → Option Valued
made t vs = option_and_then (λ (ty : CmType). option_and_then (λ (all : List Valued). with_type ty (constructed ty all)) (all_there vs)) t

-- ---- parts of values

unfoldable pub field_in : List ℕ → FieldTypes → Values → Option Valued
field_in n (Field k t fields) (Then v vs) = if bytes_eq k n then Some (record { ty = t; value = v }) else field_in n fields vs
field_in n _ _ = None

abbrev pub field_of : List ℕ → Valued → Option Valued
field_of n v = by v.ty v.value where
  by : CmType → Value → Option Valued
  by (Record p fields) (Many all) = field_in n fields all
  by _ _ = None

unfoldable pub element_in : CmType → Values → ℕ → Option Valued
element_in t NoValues i = None
element_in t (Then v vs) zero = Some (record { ty = t; value = v })
element_in t (Then v vs) (suc i) = element_in t vs i

-- a constant index is 0 to the size less 1
abbrev pub element_of : Valued → Valued → Option Valued
element_of a i = if is_number i.ty then by a.ty a.value (number_of i.value) else None where
  by : CmType → Value → Option ℤ → Option Valued
  by (Array n t) (Many all) (Some (pos k)) = element_in t all k
  by _ _ _ = None

abbrev pub both : (Valued → Valued → Option Valued) → Option Valued → Option Valued → Option Valued
both f a b = option_and_then (λ (x : Valued). option_and_then (f x) b) a

-- ---- expressions and types

-- `wrap<n>` and `clamp<n>`
abbrev pub counted : (ℕ → CmType) → Option Valued → Option CmType
counted f n = option_map f (count_in n)

-- the value of a constant expression, and the type that a base type is
unfoldable mutual
  pub eval : Around → (Declared → Meaning) → Expr → Option Valued
  eval r look (e.Number p z wide) = Some (record { ty = if wide then int64 else int32; value = Number z })
  eval r look (e.Truth p t) = Some (record { ty = bool; value = Truth t })
  eval r look (e.Name q) = value_in (meant_by r look q)
  eval r look (e.Call' q sh args) = made (type_in (meant_by r look q)) (eval_row r look args)
  eval r look (e.Construct' t sh sizes i args) = made (arrays (base_type r look t) (eval_row r look sizes)) (eval_row r look args)
  eval r look (e.Paren' p sh (more_of-Expr a end_of-Expr)) = eval r look a
  eval r look (e.Field' p sh (more_of-Expr a end_of-Expr) w) = option_and_then (field_of w.text) (eval r look a)
  eval r look (e.Index' p sh (more_of-Expr a end_of-Expr) i (more_of-Expr c end_of-Expr)) = both element_of (eval r look a) (eval r look c)
  eval r look (e.Unary' p op sh (more_of-Expr a end_of-Expr)) = option_and_then (operate_alone op) (eval r look a)
  eval r look (e.Binary' p op sh (more_of-Expr a end_of-Expr) i (more_of-Expr c end_of-Expr)) = both (operate op) (eval r look a) (eval r look c)
  eval r look (e.Choice' p sh (more_of-Expr t end_of-Expr) i (more_of-Expr a end_of-Expr) j (more_of-Expr c end_of-Expr)) =
      option_and_then (λ (x : Valued). both (choose x) (eval r look a) (eval r look c)) (eval r look t)

  pub eval_row : Around → (Declared → Meaning) → {n : _} → Row_of-Expr n → List (Option Valued)
  eval_row r look end_of-Expr = []
  eval_row r look (more_of-Expr a others) = eval r look a ∷ eval_row r look others

  pub base_type : Around → (Declared → Meaning) → Base → Option CmType
  base_type r look (b.Bool p) = Some bool
  base_type r look (b.Int p) = Some int32
  base_type r look (b.Int32 p) = Some int32
  base_type r look (b.Int64 p) = Some int64
  base_type r look (b.Wrap' p sh (more_of-Expr a end_of-Expr)) = counted (λ n. Single (kind.Wrap n)) (eval r look a)
  base_type r look (b.Clamp' p sh (more_of-Expr a end_of-Expr)) = counted (λ n. Single (kind.Clamp n)) (eval r look a)

-- the type that is written
abbrev pub type_of_expr : Around → (Declared → Meaning) → TypeExpr → Option CmType
type_of_expr r look (y.Base t sizes) = arrays (base_type r look t) (map (eval r look) sizes)
type_of_expr r look (y.Named q sizes) = arrays (type_in (meant_by r look q)) (map (eval r look) sizes)

-- ---- declarations

-- fields of one type in front of others
unfoldable pub with_fields : CmType → List Word → FieldTypes → FieldTypes
with_fields t [] others = others
with_fields t (w ∷ words) others = Field w.text t (with_fields t words others)

unfoldable pub field_types : Around → (Declared → Meaning) → List Fields → Option FieldTypes
field_types r look [] = Some NoFields
field_types r look (a ∷ all) =
    option_and_then (λ (t : CmType). option_map (with_fields t a.names) (field_types r look all)) (type_of_expr r look a.ty)

abbrev pub argument : List Meaning → ℕ → Meaning
argument args i = given (slice_get args i) where
  given : Option Meaning → Meaning
  given None = Nothing
  given (Some m) = m

-- what a declaration means by its own text; the parameters of a processor or graph mean its arguments, by their positions
abbrev pub meaning : List Declared → List Meaning → (Declared → Meaning) → Declared → Meaning
meaning all args look d = by d.named where
  by : Named → Meaning
  by (Constant value) = as_value (eval (around_home all d.home) look value)
  by (Using ty) = as_type (type_of_expr (around_home all d.home) look ty)
  by (Struct p fields) = as_type (option_map (Record d.word.place) (field_types (around_home all d.home) look fields))
  by (TypeParameter i) = argument args i
  by (ValueParameter i ty) = argument args i
  by _ = Nothing

-- A meaning of a patch for an instance of the processor or graph at home, or of namespaces alone: each declaration of a
-- namespace or of that home means what its text means.
pub record IsMeaning (files : List File) (home : Home) (args : List Meaning) (look : Declared → Meaning) : Type 0 where
  pub each : (d : Declared) → Contains (all_names files) d → (d.home.unit ≡ None) ⊎ (d.home ≡ home) → look d ≡ meaning (patch_names files) args look d

-- one that is computed: uses deeper than the fuel mean nothing
unfoldable pub meant : List Declared → List Meaning → ℕ → Declared → Meaning
meant all args zero d = Nothing
meant all args (suc n) d = meaning all args (meant all args n) d
