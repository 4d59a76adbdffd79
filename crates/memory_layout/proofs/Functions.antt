-- The sizes of the functions of a unit, from the last to the first.
use Rattle.std.specs.Prelude.{◌≡◌, refl, ℕ, suc, ◌+◌, ◌-◌, ◌<◌, List, ◌∷◌, drop, map, length, get_or, slice_set, slice_index_or}
use Rattle.std.proofs.Common.{ap, sym, ◌∙◌, arith}
use Rattle.std.proofs.Math.Seq.{drop-cons}
use Rattle.std.proofs.lemmas.List.{drop-set}
use Rattle.cm_core.specs.declared.core_type.StructType.{StructType}
use Rattle.cm_core.specs.declared.unit.Unit.{Unit as CoreUnit}
use Rattle.cm_core.specs.declared.unit.Function.{Function}
use Rattle.cm_core.specs.Code.{stmt_of}
use Rattle.cm_core.specs.Sizes.{stmt_size}
use Rattle.cm_core.specs.Measures.{measured_in, size_among, body_sizes}
use Rattle.memory_layout.specs.Held.{held}
use Rattle.memory_layout.proofs.Alike.{stmt_alike}
use Rattle.memory_layout.proofs.Counts.{held_entry}

held_twice : (n : ℕ) → held (held n) ≡ held n
held_twice n = omega arith

held_among : (xs ys : List ℕ) (i : ℕ) → xs ≡ map held ys → held (size_among xs i) ≡ held (size_among ys i)
held_among xs ys i is = ap (λ (l : List ℕ). held (slice_index_or l i 0)) is ∙ ap held (held_entry ys i) ∙ held_twice (slice_index_or ys i 0)

-- with all functions known
pub held_from : (xs ys : List ℕ) → xs ≡ map held ys → (f : ℕ) → held (size_among xs (f - 0)) ≡ held (size_among ys f)
held_from xs ys is f =
    let same : f - 0 ≡ f = omega arith in
    held_among xs ys (f - 0) is ∙ ap (λ (k : ℕ). held (size_among ys k)) same

function_first : (fs : List Function) (n : ℕ) (f : Function) → n < length fs → f ≡ get_or fs n f → drop n fs ≡ f ∷ drop (n + 1) fs
function_first fs n f below is =
    let next : suc n ≡ n + 1 = omega arith in
    drop-cons fs n f below ∙ ap (λ (g : Function). g ∷ drop (suc n) fs) (sym is) ∙ ap (λ (k : ℕ). f ∷ drop k fs) next

-- one function more is measured
pub measured_more : (structs : List StructType) (unit : CoreUnit) (chains : ℕ → ℕ) (fs : List Function) (xs : List ℕ) (n size : ℕ) (f : Function)
    → n < length fs → length xs ≡ length fs → f ≡ get_or fs n f
    → drop (n + 1) xs ≡ map held (body_sizes structs unit chains (n + 1) (drop (n + 1) fs))
    → size ≡ held (stmt_size (measured_in structs unit (λ g. size_among (drop (n + 1) xs) (g - (n + 1))) chains) (stmt_of f.body))
    → drop n (slice_set xs n size) ≡ map held (body_sizes structs unit chains n (drop n fs))
measured_more structs unit chains fs xs n size f below long is rest sized =
    drop-set xs n size (grind (arith, below, long)) ∙ ap (λ (k : ℕ). k ∷ drop (n + 1) xs) head ∙ ap (λ (l : List ℕ). held own ∷ l) rest
    ∙ sym (ap (λ (l : List Function). map held (body_sizes structs unit chains n l)) (function_first fs n f below is))
  where
    later : List ℕ
    later = body_sizes structs unit chains (n + 1) (drop (n + 1) fs)

    own : ℕ
    own = stmt_size (measured_in structs unit (λ g. size_among later (g - (n + 1))) chains) (stmt_of f.body)

    head : size ≡ held own
    head = sized ∙ stmt_alike structs unit (λ g. size_among (drop (n + 1) xs) (g - (n + 1))) (λ g. size_among later (g - (n + 1))) chains chains
        (λ g. held_among (drop (n + 1) xs) later (g - (n + 1)) rest) (λ e. refl) (stmt_of f.body)
