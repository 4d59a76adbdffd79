-- Types and their values: docs/LANGUAGE.md, "Types".
use Rattle.std.specs.Prelude.{ℕ, zero, suc, ◌+◌, ◌*◌, ◌==◌, Bool, true, false, ◌&&◌, ℤ, pos, int_le, List, [], ◌∷◌, ◌++◌, Option, Some, None, bytes_eq}
use Rattle.cm_base.specs.declared.place.Place.{Place}
use Rattle.cm_base.specs.declared.host.Scalar.{Scalar}
use Rattle.cm_base.specs.declared.host.Scalar.TheVariants as kind
use Rattle.cm_number.specs.Conversion.{to_bool}
use Rattle.cm_scalar.specs.Scalars.{converted}

-- a type; a struct is told by the place of its declaration's name and the types of its fields
mutual
  pub data CmType : Type 0 where
    Single : (kind : Scalar) → CmType
    -- `count` elements of a type
    Array : (count : ℕ) → (element : CmType) → CmType
    Record : (declared : Place) → (fields : FieldTypes) → CmType

  pub data FieldTypes : Type 0 where
    NoFields : FieldTypes
    Field : (name : List ℕ) → (ty : CmType) → (others : FieldTypes) → FieldTypes

abbrev pub int32 : CmType
int32 = Single kind.Int32

abbrev pub int64 : CmType
int64 = Single kind.Int64

abbrev pub bool : CmType
bool = Single kind.Bool

-- ---- equal types

abbrev pub is_kind : Scalar → Scalar → Bool
is_kind kind.Int32 kind.Int32 = true
is_kind kind.Int64 kind.Int64 = true
is_kind kind.Bool kind.Bool = true
is_kind (kind.Wrap n) (kind.Wrap k) = n == k
is_kind (kind.Clamp n) (kind.Clamp k) = n == k
is_kind _ _ = false

abbrev pub is_place : Place → Place → Bool
is_place p q = (p.file == q.file) && ((p.line == q.line) && (p.column == q.column))

-- two structs are one type where their declaration and the types of all fields are the same
unfoldable mutual
  pub is_same : CmType → CmType → Bool
  is_same (Single a) (Single b) = is_kind a b
  is_same (Array n t) (Array k u) = (n == k) && is_same t u
  is_same (Record p fs) (Record q gs) = is_place p q && are_same fs gs
  is_same _ _ = false

  pub are_same : FieldTypes → FieldTypes → Bool
  are_same NoFields NoFields = true
  are_same (Field n t fs) (Field k u gs) = bytes_eq n k && (is_same t u && are_same fs gs)
  are_same _ _ = false

-- ---- scalars

-- a list some times over
unfoldable pub times : {A : Type 0} → ℕ → List A → List A
times zero xs = []
times (suc n) xs = xs ++ times n xs

-- how many scalars a value of the type has
unfoldable mutual
  pub scalars : CmType → ℕ
  scalars (Single kind) = 1
  scalars (Array n t) = n * scalars t
  scalars (Record p fields) = scalars_of fields

  pub scalars_of : FieldTypes → ℕ
  scalars_of NoFields = 0
  scalars_of (Field n t others) = scalars t + scalars_of others

-- the kinds of its scalars, from left to right
unfoldable mutual
  pub flat : CmType → List Scalar
  flat (Single kind) = kind ∷ []
  flat (Array n t) = times n (flat t)
  flat (Record p fields) = flat_of fields

  pub flat_of : FieldTypes → List Scalar
  flat_of NoFields = []
  flat_of (Field n t others) = flat t ++ flat_of others

-- ---- values

-- a number, a truth value, or the values of a struct's fields or an array's elements
mutual
  pub data Value : Type 0 where
    Number : (number : ℤ) → Value
    Truth : (truth : Bool) → Value
    Many : (all : Values) → Value

  pub data Values : Type 0 where
    NoValues : Values
    Then : (first : Value) → (others : Values) → Values

unfoldable pub copies : ℕ → Value → Values
copies zero v = NoValues
copies (suc n) v = Then v (copies n v)

-- the scalar of a kind that a number is converted to
abbrev pub scalar_value : Scalar → ℤ → Value
scalar_value kind.Bool z = Truth (to_bool z)
scalar_value k z = Number (converted k z)

-- zeros and `false` in all parts
unfoldable mutual
  pub zero_of : CmType → Value
  zero_of (Single k) = scalar_value k (pos 0)
  zero_of (Array n t) = Many (copies n (zero_of t))
  zero_of (Record p fields) = Many (zeros_of fields)

  pub zeros_of : FieldTypes → Values
  zeros_of NoFields = NoValues
  zeros_of (Field n t others) = Then (zero_of t) (zeros_of others)

abbrev pub truth_number : Bool → ℤ
truth_number true = pos 1
truth_number false = pos 0

-- its scalars from left to right, a truth value being 0 or 1
unfoldable mutual
  pub flat_value : Value → List ℤ
  flat_value (Number z) = z ∷ []
  flat_value (Truth b) = truth_number b ∷ []
  flat_value (Many all) = flat_values all

  pub flat_values : Values → List ℤ
  flat_values NoValues = []
  flat_values (Then v others) = flat_value v ++ flat_values others

-- the number that a scalar is, a truth value being 0 or 1
abbrev pub number_of : Value → Option ℤ
number_of (Number z) = Some z
number_of (Truth b) = Some (truth_number b)
number_of (Many all) = None

-- ---- what a type holds

abbrev pub is_equal : ℤ → ℤ → Bool
is_equal a b = int_le a b && int_le b a

-- a number that the conversion to the kind leaves as it is
abbrev pub holds : Scalar → ℤ → Bool
holds k z = is_equal (converted k z) z

-- a value of a type
unfoldable mutual
  pub is_of : CmType → Value → Bool
  is_of (Single kind.Bool) (Truth b) = true
  is_of (Single kind.Bool) _ = false
  is_of (Single k) (Number z) = holds k z
  is_of (Array n t) (Many all) = are_elements n t all
  is_of (Record p fields) (Many all) = are_fields fields all
  is_of _ _ = false

  pub are_elements : ℕ → CmType → Values → Bool
  are_elements zero t NoValues = true
  are_elements (suc n) t (Then v others) = is_of t v && are_elements n t others
  are_elements _ t _ = false

  pub are_fields : FieldTypes → Values → Bool
  are_fields NoFields NoValues = true
  are_fields (Field n t fields) (Then v others) = is_of t v && are_fields fields others
  are_fields _ _ = false
