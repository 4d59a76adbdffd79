-- The bytes of types, where those of the structs are known: docs/LANGUAGE.md, "Sizes".
use Rattle.std.specs.Prelude.{ℕ, ◌*◌, List, [], ◌∷◌, ◌++◌, take, sum_by, slice_index_or}
use Rattle.cm_core.specs.declared.core_type.BaseType.{BaseType}
use Rattle.cm_core.specs.declared.core_type.BaseType.TheVariants as base
use Rattle.cm_core.specs.declared.core_type.CoreType.{CoreType}
use Rattle.cm_core.specs.declared.core_type.StructType.{StructType}
use Rattle.cm_core.specs.Sizes.{scalar_bytes}
use Rattle.cm_core.specs.Types.{elements, fields_of}

abbrev pub base_bytes : List ℕ → BaseType → ℕ
base_bytes known (base.Scalar kind) = scalar_bytes kind
base_bytes known (base.Struct s) = slice_index_or known s 0

-- all elements of an array, one after another
abbrev pub bytes_in : List ℕ → CoreType → ℕ
bytes_in known ty = elements ty.lengths * base_bytes known ty.base

-- the fields before this one
abbrev pub bytes_before : List ℕ → List StructType → CoreType → ℕ → ℕ
bytes_before known structs ty k = sum_by (bytes_in known) (take k (fields_of structs ty.base))

-- the bytes of each struct behind those of the structs before them, which alone it names
abbrev pub bytes_after : List ℕ → List StructType → List ℕ
bytes_after known [] = known
bytes_after known (s ∷ others) = bytes_after (known ++ sum_by (bytes_in known) s.fields ∷ []) others

abbrev pub bytes_of_structs : List StructType → List ℕ
bytes_of_structs structs = bytes_after [] structs
