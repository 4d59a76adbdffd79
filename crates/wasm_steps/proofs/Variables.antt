-- Locals and globals: what is read after a write.
use Rattle.std.proofs.Common.{◌≡◌, ℕ, ◌<◌, inl, inr, List, length, sym, ap, ◌∙◌, arith, Some}
use Rattle.std.specs.Prelude.{slice_get, slice_set}
use Rattle.std.proofs.lemmas.Bool.{cases_lt}
use Rattle.std.proofs.lemmas.List.{get_or-set_same, get_or-set_other, length-set}
use Rattle.std.proofs.lemmas.Option.{slice_get-get_or, slice_get_past}

-- what was written is read
pub slice_get-slice_set_same : (xs : List ℕ) (i v : ℕ) → i < length xs → slice_get (slice_set xs i v) i ≡ Some v
slice_get-slice_set_same xs i v h =
    slice_get-get_or (slice_set xs i v) i v (omega (arith, length-set xs i v)) ∙ ap (λ x. Some x) (get_or-set_same xs i v v h)

-- another variable is as it was
pub slice_get-slice_set_other : (xs : List ℕ) (i j v : ℕ) → (j ≡ i → ⊥) → slice_get (slice_set xs i v) j ≡ slice_get xs j
slice_get-slice_set_other xs i j v other = elim (cases_lt j (length xs)) [
  | inl h ↦ slice_get-get_or (slice_set xs i v) j v (omega (arith, length-set xs i v)) ∙ ap (λ x. Some x) (get_or-set_other xs i j v v other) ∙ sym (slice_get-get_or xs j v h)
  | inr h ↦ slice_get_past (slice_set xs i v) j (omega (arith, length-set xs i v)) ∙ sym (slice_get_past xs j h)
]

-- a write keeps the number of variables
pub length-slice_set : (xs : List ℕ) (i v : ℕ) → length (slice_set xs i v) ≡ length xs
length-slice_set xs i v = length-set xs i v
