-- What a patch of the form does in a frame, whatever is left of its main.
use Rattle.std.proofs.Common.{◌≡◌, ◌≢◌, ℕ, List, [], ◌∷◌, false, ◌∙◌, ap, subst, sym, ℤ, ◌⊎◌, inl, inr}
use Rattle.std.specs.Prelude.{FitsSigned}
use Rattle.std.specs.Int.{w32}
use Rattle.cm_base.specs.declared.host.Flow.TheVariants.{Input, Output}
use Rattle.cm_base.specs.Parts.{Inputs}
use Rattle.cm_base.specs.Tasks.{AreInputs}
use Rattle.cm_tree.specs.declared.file.File.{File}
use Rattle.cm_meaning.specs.Stores.{Store}
use Rattle.cm_meaning.specs.TypeOf.{Knowledge}
use Rattle.cm_meaning.specs.Types.{is_place}
use Rattle.cm_meaning.specs.World.{Todo}
use Rattle.through_meaning.specs.Parts.{Parts, host_stream}
use Rattle.through_meaning.proofs.Steps.{frame_inputs, first_rest, first_store, next_rest, next_store, Steps, Lacks, first_step, next_step, first_lacks, next_lacks}

-- the whole main is left, or the loop that was begun
abbrev pub IsReady : List File → Parts → (input output : List ℕ) → List Todo → Store → Type 0
IsReady files parts input output rest store =
    ((rest ≡ first_rest files parts input output) × (store ≡ first_store)) ⊎ ((rest ≡ next_rest files parts input output) × (store ≡ next_store))

-- with a turn it tells the input
pub source_goes : (files : List File) (parts : Parts) (input output : List ℕ) (k : Knowledge) → input ≢ output → is_place parts.input.name parts.output.name ≡ false → (rest : List Todo) (store : Store) →
    IsReady files parts input output rest store → Steps files parts input output k rest store
source_goes files parts input output k names places rest store (inl (is, same)) =
    subst (λ r. Steps files parts input output k r store) (sym is) (subst (λ s. Steps files parts input output k (first_rest files parts input output) s) (sym same) (first_step files parts input output k names places))
source_goes files parts input output k names places rest store (inr (is, same)) =
    subst (λ r. Steps files parts input output k r store) (sym is) (subst (λ s. Steps files parts input output k (next_rest files parts input output) s) (sym same) (next_step files parts input output k names places))

-- and without one it is spent
pub source_spent : (files : List File) (parts : Parts) (input output : List ℕ) (k : Knowledge) (rest : List Todo) (store : Store) → IsReady files parts input output rest store → Lacks files parts input output k rest store
source_spent files parts input output k rest store (inl (is, same)) =
    subst (λ r. Lacks files parts input output k r store) (sym is) (subst (λ s. Lacks files parts input output k (first_rest files parts input output) s) (sym same) (first_lacks files parts input output k))
source_spent files parts input output k rest store (inr (is, same)) =
    subst (λ r. Lacks files parts input output k r store) (sym is) (subst (λ s. Lacks files parts input output k (next_rest files parts input output) s) (sym same) (next_lacks files parts input output k))

-- the input of a frame is one int32
pub inputs_form : (input output : List ℕ) (inputs : Inputs) → AreInputs (host_stream Input input ∷ host_stream Output output ∷ []) inputs → (v : ℤ) × (inputs ≡ frame_inputs v) × FitsSigned w32 v
inputs_form input output [] are = absurd are
inputs_form input output ([] ∷ others) are = absurd are.0
inputs_form input output ((v ∷ []) ∷ []) are = absurd are.2
inputs_form input output ((v ∷ []) ∷ second ∷ others) are =
    (v, ap (λ o. (v ∷ []) ∷ o) (ap (λ x. x ∷ others) are.2.1 ∙ ap (λ o. [] ∷ o) are.2.2), are.0.0)
inputs_form input output ((v ∷ w ∷ more) ∷ others) are = absurd are.0.1
