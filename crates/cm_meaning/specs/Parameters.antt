-- The parameters of a patch: docs/LANGUAGE.md, "Parameters". A value or event input of the main declaration with the key
-- `name` is one. Its ends default to those of `int32`, and its start to 0 held between them.
use Rattle.std.specs.Prelude.{ℕ, ◌^◌, ◌-◌, Bool, false, ◌&&◌, if◌then◌else◌, ℤ, pos, neg_ℤ, int_le, List, [], ◌∷◌, ◌++◌, flat_map, Option, Some, None, bytes_eq, codes}
use Rattle.cm_base.specs.declared.cause.Cause.TheVariants as cause
use Rattle.cm_base.specs.declared.place.Place.{Place}
use Rattle.cm_base.specs.declared.host.Flow.{Flow}
use Rattle.cm_base.specs.declared.host.Flow.TheVariants as flow
use Rattle.cm_base.specs.declared.host.Kind.{Kind}
use Rattle.cm_base.specs.declared.host.Kind.TheVariants as kind
use Rattle.cm_number.specs.Conversion.{nearest}
use Rattle.cm_tree.specs.declared.type_expr.TypeExpr.{TypeExpr}
use Rattle.cm_tree.specs.declared.member.KeyValue.{KeyValue}
use Rattle.cm_tree.specs.declared.member.KeyValue.TheVariants as kv
use Rattle.cm_tree.specs.declared.member.Key.{Key}
use Rattle.cm_tree.specs.declared.member.EndName.{EndName}
use Rattle.cm_tree.specs.declared.member.End.{End}
use Rattle.cm_tree.specs.declared.member.Member.{Member}
use Rattle.cm_tree.specs.declared.member.Member.TheVariants as m
use Rattle.cm_tree.specs.declared.decl.UnitDecl.{UnitDecl}
use Rattle.cm_meaning.specs.Scopes.{Around}
use Rattle.cm_meaning.specs.Faults.{Fault, one, unless}
use Rattle.cm_meaning.specs.Types.{int32, is_same}
use Rattle.cm_meaning.specs.Constants.{type_of_expr}
use Rattle.cm_meaning.specs.TypeOf.{Knowledge, known_number}
use Rattle.cm_meaning.specs.Demands.{IsConstant, IsNumber, demanded, expr_demands}
use Rattle.cm_meaning.specs.TypeRows.{if_typed, type_rows}
use Rattle.cm_meaning.specs.Mains.{has_key}

-- the first key of this name
unfoldable pub find_key : List ℕ → List Key → Option Key
find_key n [] = None
find_key n (a ∷ keys) = if bytes_eq a.name.text n then Some a else find_key n keys

abbrev pub is_parameter : Flow → Kind → List Key → Bool
is_parameter flow.Input kind.Value keys = has_key (codes "name") keys
is_parameter flow.Input kind.Event keys = has_key (codes "name") keys
is_parameter _ _ keys = false

abbrev pub least : ℤ
least = neg_ℤ (pos (2 ^ 31))

abbrev pub greatest : ℤ
greatest = pos (2 ^ 31 - 1)

-- ---- what a key is given

-- a constant number; a string is none, and neither is a key without a value
abbrev pub key_faults : Around → Knowledge → Option Key → List Fault
key_faults r k None = []
key_faults r k (Some a) = by a.value where
  by : Option KeyValue → List Fault
  by None = one cause.NotConstant a.name.place
  by (Some (kv.Text p text)) = one cause.NotConstant p
  by (Some (kv.Value v)) = flat_map (type_rows k) (expr_demands r v ++ demanded r (IsConstant v) ∷ demanded r (IsNumber v) ∷ [])

abbrev pub given_number : Around → Knowledge → Option KeyValue → Option ℤ
given_number r k (Some (kv.Value v)) = known_number r k v
given_number r k _ = None

-- the number of a key, or another where there is no such key
abbrev pub key_number : Around → Knowledge → Option Key → ℤ → Option ℤ
key_number r k None other = Some other
key_number r k (Some a) other = given_number r k a.value

-- ---- ranges

abbrev pub is_within : ℤ → ℤ → ℤ → Bool
is_within low high z = int_le low z && int_le z high

-- `int32` numbers, with low <= start <= high
abbrev pub is_range : ℤ → ℤ → ℤ → Bool
is_range low high start = is_within least greatest low && (is_within least greatest high && (int_le low high && is_within low high start))

abbrev pub range_faults : Place → Option ℤ → Option ℤ → Option ℤ → List Fault
range_faults p (Some low) (Some high) (Some start) = unless (is_range low high start) cause.ParameterRange p
range_faults p _ _ _ = []

-- 0 held between the ends
abbrev pub held_zero : Option ℤ → Option ℤ → ℤ
held_zero (Some low) (Some high) = nearest low high (pos 0)
held_zero _ _ = pos 0

abbrev pub ranged : Place → Option ℤ → Option ℤ → (ℤ → Option ℤ) → List Fault
ranged p low high start = range_faults p low high (start (held_zero low high))

-- what is wrong with the parameter that an endpoint is
abbrev pub parameter_faults : Around → Knowledge → TypeExpr → EndName → List Fault
parameter_faults r k ty a =
    if_typed (type_of_expr r k.look ty) (is_same int32) cause.ParameterType a.name.place
    ++ (key_faults r k (find_key (codes "min") a.keys) ++ (key_faults r k (find_key (codes "max") a.keys) ++ (key_faults r k (find_key (codes "init") a.keys)
    ++ ranged a.name.place (key_number r k (find_key (codes "min") a.keys) least) (key_number r k (find_key (codes "max") a.keys) greatest) (key_number r k (find_key (codes "init") a.keys)))))

abbrev pub end_faults : Around → Knowledge → Flow → Kind → TypeExpr → EndName → List Fault
end_faults r k flow kind ty a = if is_parameter flow kind a.keys then parameter_faults r k ty a else []

abbrev pub ends_faults : Around → Knowledge → Flow → End → List Fault
ends_faults r k flow end = flat_map (end_faults r k flow end.kind end.ty) end.names

abbrev pub inputs_faults : Around → Knowledge → Member → List Fault
inputs_faults r k (m.Ends p flow ends) = flat_map (ends_faults r k flow) ends
inputs_faults r k _ = []

-- of the main declaration
abbrev pub main_faults : Around → Knowledge → UnitDecl → List Fault
main_faults r k u = flat_map (inputs_faults r k) u.members
