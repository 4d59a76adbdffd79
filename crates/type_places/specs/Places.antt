-- Where the scalars of types stand in bytes.
use Rattle.std.specs.Prelude.{ℕ, List, take, sum_by}
use Rattle.cm_core.specs.declared.core_type.CoreType.{CoreType}
use Rattle.cm_core.specs.declared.core_type.StructType.{StructType}
use Rattle.cm_core.specs.Sizes.{bytes_of}
use Rattle.cm_core.specs.Types.{fields_of, shape_of}

-- the bytes of its scalars
abbrev pub type_bytes : List StructType → CoreType → ℕ
type_bytes structs ty = bytes_of (shape_of structs ty)

-- the bytes of the fields before this one
abbrev pub field_place : List StructType → CoreType → ℕ → ℕ
field_place structs ty k = sum_by (type_bytes structs) (take k (fields_of structs ty.base))
