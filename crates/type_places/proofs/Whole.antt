-- The bytes of types by those of all structs.
use Rattle.std.specs.Prelude.{◌≡◌, refl, ℕ, ◌+◌, List, [], ◌∷◌, map, take, sum_by}
use Rattle.std.proofs.Common.{ap, sym, ◌∙◌}
use Rattle.std.proofs.lemmas.List.Sums.{sum_by-cons}
use Rattle.cm_core.specs.declared.core_type.CoreType.{CoreType}
use Rattle.cm_core.specs.declared.core_type.StructType.{StructType}
use Rattle.cm_core.specs.Types.{fields_of}
use Rattle.type_places.specs.Bytes.{bytes_in, bytes_before, bytes_of_structs}
use Rattle.type_places.specs.Held.{held}
use Rattle.type_places.specs.Places.{type_bytes, field_place}
use Rattle.type_places.proofs.Held.{held_bytes, held_fields}
use Rattle.type_places.proofs.Shapes.{are_of_shapes}

pub known_bytes : (known : List ℕ) (structs : List StructType) (ty : CoreType) → known ≡ map held (bytes_of_structs structs) → held (bytes_in known ty) ≡ held (type_bytes structs ty)
known_bytes known structs ty h = ap (λ (l : List ℕ). held (bytes_in l ty)) h ∙ held_bytes (bytes_of_structs structs) ty ∙ ap held (are_of_shapes structs ty)

all_of_shapes : (structs : List StructType) (ts : List CoreType) → sum_by (bytes_in (bytes_of_structs structs)) ts ≡ sum_by (type_bytes structs) ts
all_of_shapes structs [] = refl
all_of_shapes structs (t ∷ ts) =
    sum_by-cons (bytes_in (bytes_of_structs structs)) t ts
    ∙ ap (λ n. n + sum_by (bytes_in (bytes_of_structs structs)) ts) (are_of_shapes structs t)
    ∙ ap (λ n. type_bytes structs t + n) (all_of_shapes structs ts)
    ∙ sym (sum_by-cons (type_bytes structs) t ts)

pub known_before : (known : List ℕ) (structs : List StructType) (ty : CoreType) (k : ℕ) → known ≡ map held (bytes_of_structs structs) → held (bytes_before known structs ty k) ≡ held (field_place structs ty k)
known_before known structs ty k h =
    ap (λ (l : List ℕ). held (bytes_before l structs ty k)) h
    ∙ held_fields (bytes_of_structs structs) (take k (fields_of structs ty.base))
    ∙ ap held (all_of_shapes structs (take k (fields_of structs ty.base)))
