-- The types that a patch can have: each count in them is from 1 to 2^31 - 1. And how many parts a type has.
use Rattle.std.specs.Prelude.{◌≡◌, ℕ, ◌+◌, true}
use Rattle.cm_base.specs.HostEnds.{IsCount, IsLawfulScalar}
use Rattle.cm_meaning.specs.Types.{CmType, Single, Array, Record, FieldTypes, NoFields, Field, is_of}
use Rattle.cm_meaning.specs.Conversions.{Valued}

abbrev mutual
  pub IsLawfulType : CmType → Type 0
  IsLawfulType (Single k) = IsLawfulScalar k
  IsLawfulType (Array n t) = IsCount n × IsLawfulType t
  IsLawfulType (Record p fields) = AreLawfulTypes fields

  pub AreLawfulTypes : FieldTypes → Type 0
  AreLawfulTypes NoFields = Unit {0}
  AreLawfulTypes (Field n t others) = IsLawfulType t × AreLawfulTypes others

-- a type and the types in it, with one more for each field
abbrev mutual
  pub parts : CmType → ℕ
  parts (Single k) = 1
  parts (Array n t) = parts t + 1
  parts (Record p fields) = parts_of fields + 1

  pub parts_of : FieldTypes → ℕ
  parts_of NoFields = 0
  parts_of (Field n t others) = parts t + 1 + parts_of others

-- a value of a type that a patch can have
pub record IsSound (v : Valued) : Type 0 where
  pub lawful : IsLawfulType v.ty
  pub fits : is_of v.ty v.value ≡ true
