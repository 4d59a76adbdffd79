-- What can be wrong with values and types at one place: docs/LANGUAGE.md, "Refusals". A row speaks only where the types of
-- its parts are there, so that a fault in a part is named once, and hides nothing beside it.
use Rattle.std.specs.Prelude.{ℕ, suc, ◌==◌, nat_lt, nat_le, Bool, true, false, not, ◌&&◌, ◌||◌, if◌then◌else◌, ℤ, pos, negsuc, List, [], ◌∷◌, ◌++◌, length, Option, Some, None, is_some, is_none, option_and_then}
use Rattle.cm_base.specs.declared.cause.Cause.{Cause}
use Rattle.cm_base.specs.declared.cause.Cause.TheVariants as cause
use Rattle.cm_base.specs.declared.place.Place.{Place}
use Rattle.cm_base.specs.declared.host.Scalar.TheVariants as kind
use Rattle.cm_tree.specs.declared.path.Path.{Path}
use Rattle.cm_tree.specs.declared.path.Word.{Word}
use Rattle.cm_tree.specs.declared.operator.Binary.{Binary}
use Rattle.cm_tree.specs.declared.operator.Binary.TheVariants as o
use Rattle.cm_tree.specs.declared.expr.Expr.{Expr}
use Rattle.cm_tree.specs.declared.type_expr.TypeExpr.{TypeExpr}
use Rattle.cm_tree.specs.declared.type_expr.TypeExpr.TheVariants as y
use Rattle.cm_tree.specs.declared.type_expr.Typed.{Typed}
use Rattle.cm_tree.specs.declared.shared.Function.{Function as FunctionDecl}
use Rattle.cm_tree.specs.Levels.{place, base_place}
use Rattle.cm_meaning.specs.Declared.{Named, Function, Declared, is_type}
use Rattle.cm_meaning.specs.Scopes.{Around, around_function, find, find_word}
use Rattle.cm_meaning.specs.Faults.{Fault, one, unless}
use Rattle.cm_meaning.specs.Types.{CmType, Single, Array, Record, FieldTypes, NoFields, Field, scalars, number_of}
use Rattle.cm_meaning.specs.Conversions.{Valued, converts, operated, operated_alone, chosen, is_number, is_condition}
use Rattle.cm_meaning.specs.Constants.{type_in, meant_by, count_number, eval, type_of_expr}
use Rattle.cm_meaning.specs.Endings.{has_ending}
use Rattle.cm_meaning.specs.TypeOf.{Knowledge, member_type, element_type, named_type, result_type, type_of, is_constant, known_number}
use Rattle.cm_meaning.specs.Demands.{Wanted, Written, OfPlace, OfEndpoint, Demand, Operates, OperatesAlone, Chooses, Selects, Indexes, UsesCall, Performs, Makes, Fits, IsCondition, IsNumber, IsConstant, IsCount, HasSize, IsCounter, IsAsserted, Returns, Ends, TakesEvent, IsStream, IsArgument, IsSmall, IsLatency, IsFactor, Demanded}

-- the place of a type's first token
abbrev pub type_place : TypeExpr → Place
type_place (y.Base t sizes) = base_place t
type_place (y.Named q sizes) = q.place

-- a fault where there is a type and it isn't one of these
abbrev pub if_typed : Option CmType → (CmType → Bool) → Cause → Place → List Fault
if_typed None good cause p = []
if_typed (Some t) good cause p = unless (good t) cause p

-- ---- operations

-- an operator takes operands of these types
abbrev pub operand_rows : (CmType → CmType → Option CmType) → Option CmType → Option CmType → Place → List Fault
operand_rows f (Some a) (Some b) p = unless (is_some (f a b)) cause.TypeMismatch p
operand_rows f _ _ p = []

abbrev pub is_division : Binary → Bool
is_division o.Divide = true
is_division o.Remainder = true
is_division _ = false

abbrev pub is_zero : ℤ → Bool
is_zero (pos n) = n == 0
is_zero (negsuc n) = false

-- the number of a constant, a truth value being 0 or 1
abbrev pub constant_number : Around → Knowledge → Expr → Option ℤ
constant_number r k a = option_and_then (λ (v : Valued). number_of v.value) (eval r k.look a)

abbrev pub zero_rows : Option ℤ → Place → List Fault
zero_rows None p = []
zero_rows (Some z) p = unless (not (is_zero z)) cause.DivideByZero p

-- a divisor is a constant other than 0
abbrev pub divisor_rows : Around → Knowledge → Bool → Expr → List Fault
divisor_rows r k false a = []
divisor_rows r k true a = unless (is_constant r a) cause.DivisorNotConstant (place a) ++ zero_rows (constant_number r k a) (place a)

-- ---- parts

abbrev pub select_rows : Option CmType → Word → List Fault
select_rows t w = if_typed t (λ (x : CmType). is_some (member_type w.text x)) cause.NoMember w.place

-- 0 to the size less 1
abbrev pub is_index : ℕ → ℤ → Bool
is_index n (pos z) = nat_lt z n
is_index n (negsuc z) = false

-- a constant index of an array
abbrev pub range_rows : Option CmType → Option ℤ → Place → List Fault
range_rows (Some (Array n t)) (Some z) p = unless (is_index n z) cause.IndexRange p
range_rows _ _ p = []

abbrev pub index_rows : Around → Knowledge → Place → Expr → Expr → List Fault
index_rows r k p a i =
    if_typed (type_of r k a) (λ (t : CmType). is_some (element_type t)) cause.NotIndexable p
    ++ (if_typed (type_of r k i) is_number cause.TypeMismatch (place i) ++ range_rows (type_of r k a) (known_number r k i) (place i))

-- ---- conversions

-- a constant number whose value can't be told is at fault in itself
abbrev pub is_untold : Around → Knowledge → Expr → Bool
is_untold r k a = is_constant r a && is_none (eval r k.look a)

-- a value of one type where another is needed
abbrev pub fit_rows : Around → Knowledge → Expr → Option CmType → List Fault
fit_rows r k a None = []
fit_rows r k a (Some t) = if_typed (type_of r k a) (λ (from : CmType). converts from t (known_number r k a) || (is_untold r k a && (is_number from && is_number t))) cause.TypeMismatch (place a)

abbrev pub wanted_type : Around → Knowledge → Wanted → Option CmType
wanted_type r k (Written start ty) = type_of_expr start k.look ty
wanted_type r k (OfPlace a) = type_of r k a
wanted_type r k (OfEndpoint w) = option_and_then (named_type r.all k) (find_word r w)

-- ---- calls

-- arguments of a function, whose parameters' types are written at its own place
unfoldable pub argument_rows : Around → Knowledge → Around → List Typed → List Expr → List Fault
argument_rows r k of_function (t ∷ params) (a ∷ args) = fit_rows r k a (type_of_expr of_function k.look t.ty) ++ argument_rows r k of_function params args
argument_rows r k of_function _ _ = []

-- a number or a truth value, which is converted
abbrev pub is_scalar : CmType → Bool
is_scalar (Single kind) = true
is_scalar _ = false

unfoldable pub count_fields : FieldTypes → ℕ
count_fields NoFields = 0
count_fields (Field n t others) = suc (count_fields others)

-- how many values a type may be made of: none, and as many as it has parts, or one for all elements
abbrev pub takes_count : CmType → ℕ → Bool
takes_count (Single kind) n = nat_le n 1
takes_count (Array size t) n = nat_le n 1 || (n == size)
takes_count (Record p fields) n = (n == 0) || (n == count_fields fields)

unfoldable pub element_rows : Around → Knowledge → CmType → List Expr → List Fault
element_rows r k t [] = []
element_rows r k t (a ∷ args) = fit_rows r k a (Some t) ++ element_rows r k t args

unfoldable pub field_rows : Around → Knowledge → FieldTypes → List Expr → List Fault
field_rows r k (Field n t others) (a ∷ args) = fit_rows r k a (Some t) ++ field_rows r k others args
field_rows r k _ _ = []

-- a cast takes a number or a truth value
abbrev pub cast_rows : Around → Knowledge → List Expr → List Fault
cast_rows r k (a ∷ []) = if_typed (type_of r k a) is_scalar cause.TypeMismatch (place a)
cast_rows r k _ = []

abbrev pub part_rows : Around → Knowledge → CmType → List Expr → List Fault
part_rows r k (Single kind) args = cast_rows r k args
part_rows r k (Array n t) args = element_rows r k t args
part_rows r k (Record p fields) args = field_rows r k fields args

-- a value that is made of others
abbrev pub made_rows : Around → Knowledge → Place → Option CmType → List Expr → List Fault
made_rows r k p None args = []
made_rows r k p (Some t) args = if takes_count t (length args) then part_rows r k t args else one cause.ConstructCount p

-- a call: of a function, whose value is used or isn't, or of a type
abbrev pub call_rows : Around → Knowledge → Bool → Path → List Expr → List Fault
call_rows r k is_used q args = by (find r q) where
  by_named : Declared → Named → List Fault
  by_named x (Function f) = unless (not is_used || is_some f.result) cause.TypeMismatch q.place ++ argument_rows r k (around_function r.all x f) f.params args
  by_named x n = if is_type n
      then unless is_used cause.NotStatement q.place ++ made_rows r k q.place (type_in (meant_by r k.look q)) args
      else []

  by : Option Declared → List Fault
  by None = []
  by (Some x) = by_named x x.named

-- ---- constants and types

-- a constant number that isn't one of these
abbrev pub number_rows : (ℤ → Bool) → Cause → Option ℤ → Place → List Fault
number_rows good cause None p = []
number_rows good cause (Some z) p = unless (good z) cause p

abbrev pub is_count : ℤ → Bool
is_count z = is_some (count_number z)

-- the most scalars that one type has
abbrev pub most_scalars : ℕ
most_scalars = 1048576

abbrev pub is_small : CmType → Bool
is_small t = nat_le (scalars t) most_scalars

abbrev pub is_wrap : CmType → Bool
is_wrap (Single (kind.Wrap n)) = true
is_wrap _ = false

-- ---- functions

-- the result that a `return` gives at a place: none in a `void` function and in a handler
abbrev pub returned : Around → Option Declared → Option (Declared × FunctionDecl)
returned r None = None
returned r (Some x) = by x.named where
  by : Named → Option (Declared × FunctionDecl)
  by (Function f) = if is_some f.result then Some (x, f) else None
  by _ = None

abbrev pub return_rows : Around → Knowledge → Place → Option Expr → Option (Declared × FunctionDecl) → List Fault
return_rows r k p None None = []
return_rows r k p (Some a) None = one cause.TypeMismatch p
return_rows r k p None (Some f) = one cause.TypeMismatch p
return_rows r k p (Some a) (Some f) = fit_rows r k a (result_type r.all k f.0 f.1)

-- a handler's parameter takes what its input carries
abbrev pub event_rows : Option CmType → Option CmType → Place → List Fault
event_rows (Some from) to p = if_typed to (λ (t : CmType). converts from t None) cause.TypeMismatch p
event_rows None to p = []

-- ---- members

-- `int32`, `int64` or arrays of these
unfoldable pub is_stream : CmType → Bool
is_stream (Single kind.Int32) = true
is_stream (Single kind.Int64) = true
is_stream (Array n t) = is_stream t
is_stream _ = false

-- `int32`, `int64` or `bool`
abbrev pub is_argument : CmType → Bool
is_argument (Single kind.Int32) = true
is_argument (Single kind.Int64) = true
is_argument (Single kind.Bool) = true
is_argument _ = false

-- a number of low to high
abbrev pub is_between : ℕ → ℕ → ℤ → Bool
is_between low high (pos n) = nat_le low n && nat_le n high
is_between low high (negsuc n) = false

-- ---- the table

abbrev pub rows_of : Around → Knowledge → Demand → List Fault
rows_of r k (Operates p op a b) = operand_rows (operated op) (type_of r k a) (type_of r k b) p ++ divisor_rows r k (is_division op) b
rows_of r k (OperatesAlone p op a) = if_typed (type_of r k a) (λ (t : CmType). is_some (operated_alone op t)) cause.TypeMismatch p
rows_of r k (Chooses p a b) = operand_rows chosen (type_of r k a) (type_of r k b) p
rows_of r k (Selects a w) = select_rows (type_of r k a) w
rows_of r k (Indexes p a i) = index_rows r k p a i
rows_of r k (UsesCall q args) = call_rows r k true q args
rows_of r k (Performs q args) = call_rows r k false q args
rows_of r k (Makes t sizes args) =
    if_typed (type_of_expr r k.look (y.Base t sizes)) is_small cause.TooManyElements (base_place t) ++ made_rows r k (base_place t) (type_of_expr r k.look (y.Base t sizes)) args
rows_of r k (Fits wanted a) = fit_rows r k a (wanted_type r k wanted)
rows_of r k (IsCondition a) = if_typed (type_of r k a) is_condition cause.TypeMismatch (place a)
rows_of r k (IsNumber a) = if_typed (type_of r k a) is_number cause.TypeMismatch (place a)
rows_of r k (IsConstant a) = unless (is_constant r a) cause.NotConstant (place a)
rows_of r k (IsCount a) = number_rows is_count cause.SizeRange (known_number r k a) (place a)
rows_of r k (HasSize ty) = if_typed (type_of_expr r k.look ty) is_small cause.TooManyElements (type_place ty)
rows_of r k (IsCounter ty) = if_typed (type_of_expr r k.look ty) is_wrap cause.TypeMismatch (type_place ty)
rows_of r k (IsAsserted a) = number_rows (λ (z : ℤ). not (is_zero z)) cause.AssertFailed (constant_number r k a) (place a)
rows_of r k (Returns p a) = return_rows r k p a (returned r r.inside)
rows_of r k (Ends f) = unless (has_ending f) cause.MissingReturn f.name.place
rows_of r k (TakesEvent w ty) = event_rows (option_and_then (named_type r.all k) (find_word r w)) (type_of_expr r k.look ty) (type_place ty)
rows_of r k (IsStream ty) = if_typed (type_of_expr r k.look ty) is_stream cause.StreamType (type_place ty)
rows_of r k (IsArgument ty) = if_typed (type_of_expr r k.look ty) is_argument cause.ParameterKind (type_place ty)
rows_of r k (IsSmall p x) = if_typed (type_in (Some (k.look x))) is_small cause.TooManyElements p
rows_of r k (IsLatency a) = number_rows (is_between 0 65536) cause.LatencyRange (known_number r k a) (place a)
rows_of r k (IsFactor a) = number_rows (is_between 1 512) cause.FactorRange (known_number r k a) (place a)

-- the faults of a place where values and types have to fit
unfoldable pub type_rows : Knowledge → Demanded → List Fault
type_rows k d = rows_of d.around k d.demand
