-- Which types and values a patch can have, as a test tells it.
use Rattle.std.specs.Prelude.{ℕ, ◌^◌, Bool, true, ◌&&◌, nat_le, nat_lt}
use Rattle.cm_base.specs.declared.host.Scalar.{Scalar}
use Rattle.cm_base.specs.declared.host.Scalar.TheVariants as kind
use Rattle.cm_meaning.specs.Types.{CmType, Single, Array, Record, FieldTypes, NoFields, Field, is_of}
use Rattle.cm_meaning.specs.Conversions.{Valued}
use Rattle.cm_meaning.specs.TypeRows.{is_small}

-- a count of values or elements
abbrev pub is_count : ℕ → Bool
is_count n = nat_le 1 n && nat_lt n (2 ^ 31)

abbrev pub is_lawful_kind : Scalar → Bool
is_lawful_kind (kind.Wrap n) = is_count n
is_lawful_kind (kind.Clamp n) = is_count n
is_lawful_kind _ = true

unfoldable mutual
  pub is_lawful : CmType → Bool
  is_lawful (Single k) = is_lawful_kind k
  is_lawful (Array n t) = is_count n && is_lawful t
  is_lawful (Record p fields) = are_lawful fields

  pub are_lawful : FieldTypes → Bool
  are_lawful NoFields = true
  are_lawful (Field n t others) = is_lawful t && are_lawful others

-- a type that a patch can have, with no more scalars than a type may have
abbrev pub is_sound_type : CmType → Bool
is_sound_type t = is_lawful t && is_small t

-- a value of a type that a patch can have
abbrev pub is_sound : Valued → Bool
is_sound v = is_lawful v.ty && is_of v.ty v.value
