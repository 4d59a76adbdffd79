-- Sizes of a unit's code with its functions rest on what its writes count only as far as this is held.
use Rattle.std.specs.Prelude.{◌≡◌, refl, ℕ, ◌+◌, ◌-◌, List, [], ◌∷◌, map, slice_index_or, Option, Some, None}
use Rattle.std.proofs.Common.{ap, sym, ◌∙◌}
use Rattle.cm_core.specs.declared.core_type.StructType.{StructType}
use Rattle.cm_core.specs.declared.unit.Unit.{Unit as CoreUnit}
use Rattle.cm_core.specs.declared.unit.Function.{Function}
use Rattle.cm_core.specs.declared.unit.Handler.{Handler}
use Rattle.cm_core.specs.Code.{stmt_of}
use Rattle.cm_core.specs.Calls.{Numbered}
use Rattle.cm_core.specs.Sizes.{stmt_size}
use Rattle.cm_core.specs.Measures.{measured_in, measured, size_among, body_sizes, handler_size, unit_size}
use Rattle.memory_layout.specs.Held.{held}
use Rattle.memory_layout.proofs.Alike.{stmt_alike, unit_alike, handlers_alike}
use Rattle.memory_layout.proofs.Counts.{held_entry}

among : (xs ys : List ℕ) (i : ℕ) → map held xs ≡ map held ys → held (size_among xs i) ≡ held (size_among ys i)
among xs ys i same = sym (held_entry xs i) ∙ ap (λ (l : List ℕ). slice_index_or l i 0) same ∙ held_entry ys i

module _ (structs : List StructType) (unit : CoreUnit) (chains other : ℕ → ℕ) (writes : (e : ℕ) → held (chains e) ≡ held (other e)) where
  bodies_alike : (n : ℕ) (fs : List Function) → map held (body_sizes structs unit chains n fs) ≡ map held (body_sizes structs unit other n fs)
  bodies_alike n [] = refl
  bodies_alike n (f ∷ fs) =
      ap (λ (k : ℕ). k ∷ map held (body_sizes structs unit chains (n + 1) fs))
      (stmt_alike structs unit (λ g. size_among (body_sizes structs unit chains (n + 1) fs) (g - (n + 1))) (λ g. size_among (body_sizes structs unit other (n + 1) fs) (g - (n + 1))) chains other
      (λ g. among (body_sizes structs unit chains (n + 1) fs) (body_sizes structs unit other (n + 1) fs) (g - (n + 1)) (bodies_alike (n + 1) fs)) writes (stmt_of f.body))
      ∙ ap (λ (l : List ℕ). held (stmt_size (measured_in structs unit (λ g. size_among (body_sizes structs unit other (n + 1) fs) (g - (n + 1))) other) (stmt_of f.body)) ∷ l)
      (bodies_alike (n + 1) fs)

  functions_alike : (f : ℕ) → held (size_among (body_sizes structs unit chains 0 unit.functions) f) ≡ held (size_among (body_sizes structs unit other 0 unit.functions) f)
  functions_alike f = among (body_sizes structs unit chains 0 unit.functions) (body_sizes structs unit other 0 unit.functions) f (bodies_alike 0 unit.functions)

  -- a leaf, and its handlers
  pub whole_alike : held (unit_size (measured structs unit chains)) ≡ held (unit_size (measured structs unit other))
  whole_alike =
      unit_alike structs unit (size_among (body_sizes structs unit chains 0 unit.functions)) (size_among (body_sizes structs unit other 0 unit.functions)) chains other
      functions_alike writes

  pub all_alike : (hs : List Handler) →
      map (λ (h : Handler). held (stmt_size (measured structs unit chains) (stmt_of h.body))) hs ≡ map (λ (h : Handler). held (stmt_size (measured structs unit other) (stmt_of h.body))) hs
  all_alike hs =
      handlers_alike structs unit (size_among (body_sizes structs unit chains 0 unit.functions)) (size_among (body_sizes structs unit other 0 unit.functions)) chains other
      functions_alike writes hs

  pub handler_alike : (found : Option Numbered) → held (handler_size (measured structs unit chains) found) ≡ held (handler_size (measured structs unit other) found)
  handler_alike None = refl
  handler_alike (Some found) =
      stmt_alike structs unit (size_among (body_sizes structs unit chains 0 unit.functions)) (size_among (body_sizes structs unit other 0 unit.functions)) chains other
      functions_alike writes (stmt_of found.1.body)
