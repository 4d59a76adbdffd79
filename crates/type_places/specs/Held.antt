-- Bytes that are held at the greatest number of 64 bits.
use Rattle.std.specs.Prelude.{ℕ, ◌-◌, ◌^◌, min, List, [], ◌∷◌, ◌++◌, sum_by}
use Rattle.cm_core.specs.declared.core_type.StructType.{StructType}
use Rattle.type_places.specs.Bytes.{bytes_in}

abbrev pub held : ℕ → ℕ
held n = min n (2 ^ 64 - 1)

-- the bytes of each struct, each held
abbrev pub held_after : List ℕ → List StructType → List ℕ
held_after known [] = known
held_after known (s ∷ others) = held_after (known ++ held (sum_by (bytes_in known) s.fields) ∷ []) others
