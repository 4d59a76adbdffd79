-- Which types and values of the definitions the code's types and values are.
use Rattle.std.specs.Prelude.{ℕ, ◌≡◌, refl, ℤ, Bool, List, [], ◌∷◌, ◌++◌, length}
use Rattle.std.proofs.Common.{ap, arith}
use Rattle.cm_base.specs.declared.place.Place.{Place}
use Rattle.cm_base.specs.declared.host.Scalar.{Scalar}
use Rattle.cm_types.specs.declared.cm_type.CmType.{CmType as CodeType, end_of-CmType, more_of-CmType, Row_of-FieldType, end_of-FieldType, more_of-FieldType}
use Rattle.cm_types.specs.declared.cm_type.CmType.TheBlock.{hidden-the_row-CmType-0, hidden-the_row-FieldType-1}
use denote.Hole.Carrier.{hidden}
use Rattle.cm_types.specs.declared.cm_type.CmType.TheVariants as t
use Rattle.cm_types.specs.declared.cm_type.FieldType.{FieldType as CodeField}
use Rattle.cm_types.specs.declared.value.Value.{Value as CodeValue, Row_of-Value, end_of-Value, more_of-Value}
use Rattle.cm_types.specs.declared.value.Value.TheVariants as v
use Rattle.cm_types.specs.declared.value.Value.TheBlock.{hidden-the_row-Value-0}
use Rattle.cm_types.specs.declared.valued.Valued.{Valued as CodeValued}
use Rattle.cm_meaning.specs.Conversions.{Valued}
use Rattle.cm_meaning.specs.Types.{CmType, Single, Array, Record, FieldTypes, NoFields, Field, Value, Number, Truth, Many, Values, NoValues, Then}

unfoldable mutual
  pub meant_type : CodeType → CmType
  meant_type (t.Single k) = Single k
  meant_type (t.Array' n h (more_of-CmType a end_of-CmType)) = Array n (meant_type a)
  meant_type (t.Record' p h fields) = Record p (meant_row fields)

  pub meant_row : {n : _} → Row_of-FieldType n → FieldTypes
  meant_row end_of-FieldType = NoFields
  meant_row (more_of-FieldType n a others) = Field n (meant_type a) (meant_row others)

-- the fields of a struct
unfoldable pub meant_fields : List CodeField → FieldTypes
meant_fields [] = NoFields
meant_fields (f ∷ fields) = Field f.name (meant_type f.ty) (meant_fields fields)

-- ---- one equation for each kind

pub meant-Single : (k : Scalar) → meant_type (t.Single k) ≡ Single k
unfolding meant_type
meant-Single k = refl

pub meant-Array : (n : ℕ) (a : CodeType) → meant_type (t.Array n a) ≡ Array n (meant_type a)
unfolding meant_type hidden-the_row-CmType-0 hidden
meant-Array n a = refl

abbrev fields_in : CodeType → FieldTypes
fields_in (t.Record' p h fields) = meant_row fields
fields_in _ = NoFields

fields-in : (p : Place) (fields : List CodeField) → fields_in (t.Record p fields) ≡ meant_fields fields
unfolding meant_type meant_row meant_fields hidden-the_row-CmType-0 hidden-the_row-FieldType-1 hidden
fields-in p [] = refl
fields-in p (f ∷ fields) = ap (Field f.name (meant_type f.ty)) (fields-in p fields)

pub meant-Record : (p : Place) (fields : List CodeField) → meant_type (t.Record p fields) ≡ Record p (meant_fields fields)
unfolding meant_type hidden-the_row-CmType-0 hidden-the_row-FieldType-1 hidden
meant-Record p fields = ap (Record p) (fields-in p fields)

pub meant-no_fields : (fields : List CodeField) → length fields ≡ 0 → meant_fields fields ≡ NoFields
unfolding meant_fields
meant-no_fields [] none = refl
meant-no_fields (f ∷ fields) none = absurd (omega (arith, none))

pub meant-field : (f : CodeField) (fields : List CodeField) → meant_fields (f ∷ fields) ≡ Field f.name (meant_type f.ty) (meant_fields fields)
unfolding meant_fields
meant-field f fields = refl

pub ruleset meant_types = (meant-Single, meant-Array, meant-Record, meant-no_fields, meant-field)

-- ---- values

unfoldable mutual
  pub meant_value : CodeValue → Value
  meant_value (v.Number z) = Number z
  meant_value (v.Truth b) = Truth b
  meant_value (v.Many' h all) = Many (values_row all)

  pub values_row : {n : _} → Row_of-Value n → Values
  values_row end_of-Value = NoValues
  values_row (more_of-Value a others) = Then (meant_value a) (values_row others)

unfoldable pub meant_values : List CodeValue → Values
meant_values [] = NoValues
meant_values (a ∷ all) = Then (meant_value a) (meant_values all)

pub meant-Number : (z : ℤ) → meant_value (v.Number z) ≡ Number z
unfolding meant_value
meant-Number z = refl

pub meant-Truth : (b : Bool) → meant_value (v.Truth b) ≡ Truth b
unfolding meant_value
meant-Truth b = refl

abbrev values_in : CodeValue → Values
values_in (v.Many' h all) = values_row all
values_in _ = NoValues

values-in : (all : List CodeValue) → values_in (v.Many all) ≡ meant_values all
unfolding meant_value values_row meant_values hidden-the_row-Value-0 hidden
values-in [] = refl
values-in (a ∷ all) = ap (Then (meant_value a)) (values-in all)

pub meant-Many : (all : List CodeValue) → meant_value (v.Many all) ≡ Many (meant_values all)
unfolding meant_value hidden-the_row-Value-0 hidden
meant-Many all = ap Many (values-in all)

pub meant-no_values : (all : List CodeValue) → length all ≡ 0 → meant_values all ≡ NoValues
unfolding meant_values
meant-no_values [] none = refl
meant-no_values (a ∷ all) none = absurd (omega (arith, none))

pub meant-then : (a : CodeValue) (all : List CodeValue) → meant_values (a ∷ all) ≡ Then (meant_value a) (meant_values all)
unfolding meant_values
meant-then a all = refl

pub ruleset meant_scalars = (meant-Number, meant-Truth, meant-Many, meant-no_values, meant-then)

-- some values in front of others
unfoldable pub onto : List CodeValue → Values → Values
onto [] others = others
onto (a ∷ all) others = Then (meant_value a) (onto all others)

pub onto-nil : (others : Values) → onto [] others ≡ others
unfolding onto
onto-nil others = refl

pub onto-push : (all : List CodeValue) (a : CodeValue) (others : Values) → onto (all ++ a ∷ []) others ≡ onto all (Then (meant_value a) others)
unfolding onto
onto-push [] a others = refl
onto-push (b ∷ all) a others = ap (Then (meant_value b)) (onto-push all a others)

pub onto-all : (all : List CodeValue) → onto all NoValues ≡ meant_values all
unfolding onto meant_values
onto-all [] = refl
onto-all (a ∷ all) = ap (Then (meant_value a)) (onto-all all)

pub ruleset values_in_order = (onto-nil, onto-push, onto-all)

-- ---- values with their types

abbrev pub meant_valued : CodeValued → Valued
meant_valued v = record { ty = meant_type v.ty; value = meant_value v.value }
