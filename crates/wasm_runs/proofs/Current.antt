-- The host's current values come back from a snapshot.
use Rattle.std.proofs.Common.{◌≡◌, ℕ, zero, suc, List, [], ◌∷◌, ◌++◌, length, take, drop, replicate, Bool, true, false, Some, refl, sym, ap, ◌∙◌, subst, ℤ, pos}
use Rattle.std.specs.Prelude.{slice_get, slice_set, if◌then◌else◌, ◌&&◌}
use Rattle.std.proofs.lemmas.List.{take_at, drop_at, length-replicate}
use Rattle.cm_base.specs.declared.host.Scalar.{Scalar}
use Rattle.cm_base.specs.declared.host.Flow.{Flow}
use Rattle.cm_base.specs.declared.host.Kind.TheVariants as kinds
use Rattle.cm_base.specs.declared.host.HostEnd.{HostEnd}
use Rattle.cm_base.specs.Parts.{is_input, is_value}
use Rattle.cm_base.specs.Scripts.{Takes}
use Rattle.cm_base.specs.Tasks.{IsTaken}
use Rattle.cm_base.proofs.TaskLemmas.{shape_length}
use Rattle.wasm_tree.specs.HostRun.{zeros_of}
use Rattle.wasm_tree.specs.Slots.{is_value_input}
use Rattle.wasm_tree.specs.Stopped.{kept_current, restored_current}

-- the current values: of the shape for a value input, and zeros for another endpoint
abbrev pub IsCurrentOf : Bool → List Scalar → List ℤ → Type 0
IsCurrentOf true shape value = length value ≡ length shape
IsCurrentOf false shape value = value ≡ replicate (length shape) (pos 0)

-- the same for each endpoint
abbrev pub AreCurrent : List HostEnd → List (List ℤ) → Type 0
AreCurrent [] current = current ≡ []
AreCurrent (end ∷ ends) [] = ⊥
AreCurrent (end ∷ ends) (value ∷ current) = IsCurrentOf (is_value_input end) end.shape value × AreCurrent ends current

back_by_kind : (input : Bool) (shape : List Scalar) (value rest : List ℤ) → IsCurrentOf input shape value →
    ((if input then take (length shape) ((if input then value else []) ++ rest) else replicate (length shape) (pos 0)) ≡ value)
    × ((if input then drop (length shape) ((if input then value else []) ++ rest) else ((if input then value else []) ++ rest)) ≡ rest)
back_by_kind true shape value rest is = (take_at value rest (length shape) is, drop_at value rest (length shape) is)
back_by_kind false shape value rest is = (sym is, refl)

-- what a snapshot keeps of the current values gives them back
pub current_back : (ends : List HostEnd) (current : List (List ℤ)) → AreCurrent ends current → restored_current ends (kept_current ends current) ≡ current
current_back [] current are = sym are
current_back (end ∷ ends) [] are = absurd are
current_back (end ∷ ends) (value ∷ current) are =
    let both = back_by_kind (is_value_input end) end.shape value (kept_current ends current) are.0 in
    ap (λ v. v ∷ restored_current ends (if is_value_input end then drop (length end.shape) ((if is_value_input end then value else []) ++ kept_current ends current) else ((if is_value_input end then value else []) ++ kept_current ends current))) both.0
    ∙ (ap (λ kept. value ∷ restored_current ends kept) both.1 ∙ ap (λ l. value ∷ l) (current_back ends current are.1))

zeros_by_kind : (input : Bool) (shape : List Scalar) → IsCurrentOf input shape (replicate (length shape) (pos 0))
zeros_by_kind true shape = length-replicate (length shape) (pos 0)
zeros_by_kind false shape = refl

-- they are so at the start
pub current_first : (ends : List HostEnd) → AreCurrent ends (zeros_of ends)
current_first [] = refl
current_first (end ∷ ends) = (zeros_by_kind (is_value_input end) end.shape, current_first ends)

value_is_input : (end : HostEnd) (value : List ℤ) → Takes kinds.Value end value → is_value_input end ≡ true
value_is_input end value takes = ap (λ (f : Flow). is_input f && is_value end.kind) takes.flow ∙ ap is_value takes.right_kind

set_at : (ends : List HostEnd) (current : List (List ℤ)) (endpoint : ℕ) (value : List ℤ) (end : HostEnd) → slice_get ends endpoint ≡ Some end → Takes kinds.Value end value → AreCurrent ends current → AreCurrent ends (slice_set current endpoint value)
set_at [] current endpoint value end found takes are = absurd (cc (found))
set_at (first ∷ ends) [] endpoint value end found takes are = absurd are
set_at (first ∷ ends) (old ∷ current) zero value end found takes are =
    let same : first ≡ end = cc (found) in
    let kind : is_value_input first ≡ true = ap is_value_input same ∙ value_is_input end value takes in
    let size : length value ≡ length first.shape = shape_length end.shape value takes.shape ∙ ap (λ (e : HostEnd). length e.shape) (sym same) in
    (subst (λ b. IsCurrentOf b first.shape value) (sym kind) size, are.1)
set_at (first ∷ ends) (old ∷ current) (suc endpoint) value end found takes are = (are.0, set_at ends current endpoint value end found takes are.1)

-- and where a value is set
pub current_set : (ends : List HostEnd) (current : List (List ℤ)) (endpoint : ℕ) (value : List ℤ) → IsTaken kinds.Value ends endpoint value → AreCurrent ends current → AreCurrent ends (slice_set current endpoint value)
current_set ends current endpoint value taken are = set_at ends current endpoint value taken.end taken.found taken.takes are
