-- How a state file is refused, and what is told of the parameters that a run begins with.
use Rattle.std.proofs.Common.{◌≡◌, ℕ, ◌≤◌, List, length, Bool, true, false, Option, Some, None, refl, sym, subst, arith, inl, inr}
use Rattle.std.specs.Prelude.{IfSome, ◌⊎◌, if◌then◌else◌}
use Rattle.cm_base.specs.declared.host.HostEnd.{HostEnd}
use Rattle.cm_base.specs.declared.play.Saved.{Saved}
use Rattle.cm_io.specs.Files.{Files}
use Rattle.cm_io.specs.Seen.{Seen}
use Rattle.saved_state.specs.State.{is_version_2, limit_of}
use Rattle.commands.specs.declared.status.FileRef.TheVariants as file
use Rattle.commands.specs.declared.status.Status.{Status}
use Rattle.commands.specs.declared.status.Status.TheVariants as status
use Rattle.commands.specs.Files.{HasFile}
use Rattle.commands.specs.Restoring.{RefusesState, PastLimit, NoForm, NoState, SavedFor, most_state}
use Rattle.commands.specs.Steps.{Stopped, FileTooBig, StateIsRefused, OutOfMemory}
use Rattle.commands.proofs.StepLemmas.{told}

least_by : (second : Bool) → 1048576 ≤ (if second then 67108864 else 1048576)
least_by true = omega arith
least_by false = omega arith

pub least_limit_of : (bytes : List ℕ) → 1048576 ≤ limit_of bytes
least_limit_of bytes = least_by (is_version_2 bytes)

state_refused : (before after : Seen) (name bytes : List ℕ) (s : Status) → IfSome before.holds (λ files. HasFile files name most_state bytes) → RefusesState bytes s →
    Stopped before after (λ f. f ≡ file.State) (λ files. NoState files name) s
state_refused before after name bytes _ has (PastLimit past) =
    FileTooBig file.State (length bytes) refl (omega (arith, least_limit_of bytes, past)) (told before.holds _ _ (λ files h. inr (record { bytes = bytes; file = h; holds = PastLimit past })) has)
state_refused before after name bytes _ has (NoForm fault within is) =
    StateIsRefused fault refl (told before.holds _ _ (λ files h. inr (record { bytes = bytes; file = h; holds = NoForm fault within is })) has)

-- a state file that is refused
pub state_stop : (before after : Seen) (name bytes : List ℕ) (s : Status) → IfSome before.holds (λ files. HasFile files name most_state bytes) → ((s ≡ status.NoMemory) ⊎ RefusesState bytes s) →
    Stopped before after (λ f. f ≡ file.State) (λ files. NoState files name) s
state_stop before after name bytes s has (inl e) = subst (Stopped before after (λ f. f ≡ file.State) (λ files. NoState files name)) (sym e) OutOfMemory
state_stop before after name bytes s has (inr r) = state_refused before after name bytes s has r

-- what files that are told hold for a run
pub saved_told : (state : Option (List ℕ)) (held : Option Files) (ends : List HostEnd) (saved : List Saved) → SavedFor state held ends saved → IfSome held (λ files. SavedFor state (Some files) ends saved)
saved_told state None ends saved is = tt
saved_told state (Some files) ends saved is = is
