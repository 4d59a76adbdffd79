-- The bytes of a type are those of its scalars.
use Rattle.std.specs.Prelude.{◌≡◌, refl, ℕ, zero, suc, ◌+◌, ◌*◌, List, [], ◌∷◌, ◌++◌, map, flat_map, sum_by, slice_index_or}
use Rattle.std.proofs.Common.{ap, sym, ◌∙◌, arith}
use Rattle.std.proofs.lemmas.List.Sums.{sum_by-cons}
use Rattle.cm_base.specs.declared.host.Scalar.{Scalar}
use Rattle.cm_core.specs.declared.core_type.BaseType.{BaseType}
use Rattle.cm_core.specs.declared.core_type.BaseType.TheVariants as base
use Rattle.cm_core.specs.declared.core_type.CoreType.{CoreType}
use Rattle.cm_core.specs.declared.core_type.StructType.{StructType}
use Rattle.cm_core.specs.Sizes.{bytes_of, scalar_bytes}
use Rattle.cm_core.specs.Types.{elements, repeated, base_shape, known_shape, shapes_after, shape_of}
use Rattle.type_places.specs.Bytes.{base_bytes, bytes_in, bytes_after, bytes_of_structs}

both : (xs ys : List Scalar) → bytes_of (xs ++ ys) ≡ bytes_of xs + bytes_of ys
both [] ys = omega arith
both (x ∷ xs) ys = rw (sum_by-cons scalar_bytes x (xs ++ ys), sum_by-cons scalar_bytes x xs, both xs ys) (omega arith)

many : (n : ℕ) (xs : List Scalar) → bytes_of (repeated n xs) ≡ n * bytes_of xs
many zero xs = omega arith
many (suc n) xs = both xs (repeated n xs) ∙ ap (λ m. bytes_of xs + m) (many n xs) ∙ omega arith

entry : (known : List (List Scalar)) (i : ℕ) → slice_index_or (map bytes_of known) i 0 ≡ bytes_of (slice_index_or known i [])
entry [] i = refl
entry (x ∷ xs) zero = refl
entry (x ∷ xs) (suc i) = entry xs i

base_is : (known : List (List Scalar)) (b : BaseType) → base_bytes (map bytes_of known) b ≡ bytes_of (base_shape known b)
base_is known (base.Scalar kind) = omega arith
base_is known (base.Struct s) = entry known s

type_is : (known : List (List Scalar)) (ty : CoreType) → bytes_in (map bytes_of known) ty ≡ bytes_of (known_shape known ty)
type_is known ty = ap (λ n. elements ty.lengths * n) (base_is known ty.base) ∙ sym (many (elements ty.lengths) (base_shape known ty.base))

fields_are : (known : List (List Scalar)) (ts : List CoreType) → sum_by (bytes_in (map bytes_of known)) ts ≡ bytes_of (flat_map (known_shape known) ts)
fields_are known [] = refl
fields_are known (t ∷ ts) =
    sum_by-cons (bytes_in (map bytes_of known)) t ts
    ∙ ap (λ n. n + sum_by (bytes_in (map bytes_of known)) ts) (type_is known t)
    ∙ ap (λ n. bytes_of (known_shape known t) + n) (fields_are known ts)
    ∙ sym (both (known_shape known t) (flat_map (known_shape known) ts))

map_push : (known : List (List Scalar)) (x : List Scalar) → map bytes_of (known ++ x ∷ []) ≡ map bytes_of known ++ bytes_of x ∷ []
map_push [] x = refl
map_push (y ∷ ys) x = ap (λ (l : List ℕ). bytes_of y ∷ l) (map_push ys x)

structs_are : (known : List (List Scalar)) (ss : List StructType) → bytes_after (map bytes_of known) ss ≡ map bytes_of (shapes_after known ss)
structs_are known [] = refl
structs_are known (s ∷ ss) =
    ap (λ (l : List ℕ). bytes_after l ss) (ap (λ (n : ℕ). map bytes_of known ++ n ∷ []) (fields_are known s.fields) ∙ sym (map_push known (flat_map (known_shape known) s.fields)))
    ∙ structs_are (known ++ flat_map (known_shape known) s.fields ∷ []) ss

-- a type has the bytes of its scalars
pub are_of_shapes : (structs : List StructType) (ty : CoreType) → bytes_in (bytes_of_structs structs) ty ≡ bytes_of (shape_of structs ty)
are_of_shapes structs ty = ap (λ (l : List ℕ). bytes_in l ty) (structs_are [] structs) ∙ type_is (shapes_after [] structs) ty
