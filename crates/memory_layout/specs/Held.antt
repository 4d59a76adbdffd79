-- Counts that are held at the greatest number of 64 bits.
use Rattle.std.specs.Prelude.{ℕ, ◌-◌, ◌^◌, min, List, [], ◌∷◌, ◌++◌, sum_by}
use Rattle.cm_core.specs.declared.core_type.StructType.{StructType}
use Rattle.cm_core.specs.Types.{known_count}

abbrev pub held : ℕ → ℕ
held n = min n (2 ^ 64 - 1)

-- how many scalars each struct has, behind those of the structs before them, each held
abbrev pub held_counts : List ℕ → List StructType → List ℕ
held_counts known [] = known
held_counts known (s ∷ others) = held_counts (known ++ held (sum_by (known_count known) s.fields) ∷ []) others
