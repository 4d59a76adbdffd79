-- Bytes of structs, held at the greatest number of 64 bits.
use Rattle.std.specs.Prelude.{◌≡◌, refl, ℕ, zero, suc, ◌+◌, ◌-◌, ◌*◌, ◌^◌, min, List, [], ◌∷◌, ◌++◌, map, sum_by, slice_index_or}
use Rattle.std.proofs.Common.{ap, sym, ◌∙◌, arith}
use Rattle.std.proofs.lemmas.List.Sums.{sum_by-cons}
use Rattle.cm_core.specs.declared.core_type.BaseType.{BaseType}
use Rattle.cm_core.specs.declared.core_type.BaseType.TheVariants as base
use Rattle.cm_core.specs.declared.core_type.CoreType.{CoreType}
use Rattle.cm_core.specs.declared.core_type.StructType.{StructType}
use Rattle.cm_core.specs.Types.{elements}
use Rattle.type_places.specs.Bytes.{base_bytes, bytes_in, bytes_after}
use Rattle.type_places.specs.Held.{held, held_after}

held_product : (n s m : ℕ) → min (n * min s m) m ≡ min (n * s) m
held_product zero s m = grind arith
held_product (suc n) s m = grind arith

held_entry : (xs : List ℕ) (i : ℕ) → slice_index_or (map held xs) i 0 ≡ held (slice_index_or xs i 0)
held_entry [] i = refl
held_entry (x ∷ xs) zero = refl
held_entry (x ∷ xs) (suc i) = held_entry xs i

held_base : (xs : List ℕ) (b : BaseType) → held (base_bytes (map held xs) b) ≡ held (base_bytes xs b)
held_base xs (base.Scalar kind) = refl
held_base xs (base.Struct s) = rw (held_entry xs s) (omega arith)

pub held_bytes : (xs : List ℕ) (t : CoreType) → held (bytes_in (map held xs) t) ≡ held (bytes_in xs t)
held_bytes xs t =
    sym (held_product (elements t.lengths) (base_bytes (map held xs) t.base) (2 ^ 64 - 1))
    ∙ ap (λ (n : ℕ). held (elements t.lengths * n)) (held_base xs t.base)
    ∙ held_product (elements t.lengths) (base_bytes xs t.base) (2 ^ 64 - 1)

pub held_fields : (xs : List ℕ) (ts : List CoreType) → held (sum_by (bytes_in (map held xs)) ts) ≡ held (sum_by (bytes_in xs) ts)
held_fields xs [] = refl
held_fields xs (t ∷ ts) = rw (sum_by-cons (bytes_in (map held xs)) t ts, sum_by-cons (bytes_in xs) t ts) (joined (bytes_in (map held xs) t) (bytes_in xs t) _ _ (held_bytes xs t) (held_fields xs ts)) where
  joined : (a b m n : ℕ) → held a ≡ held b → held m ≡ held n → held (a + m) ≡ held (b + n)
  joined a b m n h g = grind (arith, h, g)

map_push : (xs : List ℕ) (n : ℕ) → map held (xs ++ n ∷ []) ≡ map held xs ++ held n ∷ []
map_push [] n = refl
map_push (x ∷ xs) n = ap (λ (l : List ℕ). held x ∷ l) (map_push xs n)

held_all : (xs : List ℕ) (ss : List StructType) → held_after (map held xs) ss ≡ map held (bytes_after xs ss)
held_all xs [] = refl
held_all xs (s ∷ ss) =
    ap (λ (l : List ℕ). held_after l ss) (ap (λ (n : ℕ). map held xs ++ n ∷ []) (held_fields xs s.fields) ∙ sym (map_push xs (sum_by (bytes_in xs) s.fields)))
    ∙ held_all (xs ++ sum_by (bytes_in xs) s.fields ∷ []) ss

pub held_first : (ss : List StructType) → held_after [] ss ≡ map held (bytes_after [] ss)
held_first ss = held_all [] ss
