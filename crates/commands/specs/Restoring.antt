-- The state file with whose parameters a run begins: docs/COMMANDS.md, "State file" and "The order of work".
use Rattle.std.specs.Prelude.{ℕ, ◌≡◌, ◌<◌, ◌≤◌, List, [], length, Option, Some, None, IfSome}
use Rattle.cm_base.specs.declared.forms.FormFault.{FormFault}
use Rattle.cm_base.specs.declared.host.HostEnd.{HostEnd}
use Rattle.cm_base.specs.declared.play.Saved.{Saved}
use Rattle.cm_io.specs.Files.{Files}
use Rattle.saved_state.specs.declared.state.State.{State}
use Rattle.saved_state.specs.Applied.{restored}
use Rattle.saved_state.specs.State.{IsState, IsStateFault, limit_of, parameters_in}
use Rattle.commands.specs.declared.status.FileRef.TheVariants as file
use Rattle.commands.specs.declared.status.Status.{Status}
use Rattle.commands.specs.declared.status.Status.TheVariants as status
use Rattle.commands.specs.Files.{FileWith, AfterFile}

-- how many bytes a state file of any version may have
abbrev pub most_state : ℕ
most_state = 67108864

-- bytes of a state file that has this state, no more than its version may have
pub record SpellsState (bytes : List ℕ) (state : State) : Type 0 where
  pub within : length bytes ≤ limit_of bytes
  pub is_state : IsState bytes state

-- bytes of a state file with which the parameters of these endpoints begin so
pub record SavesFor (ends : List HostEnd) (saved : List Saved) (bytes : List ℕ) : Type 0 where
  pub state : State
  pub spelled : SpellsState bytes state
  pub are : saved ≡ restored ends (parameters_in state)

-- bytes are refused that are more than their version may have, or no state
pub data RefusesState (bytes : List ℕ) : Status → Type 0 where
  PastLimit : limit_of bytes < length bytes → RefusesState bytes (status.TooBig file.State (length bytes))
  NoForm : (fault : FormFault) → length bytes ≤ limit_of bytes → IsStateFault bytes fault → RefusesState bytes (status.StateRefused fault)

-- what is due where the file holds no state
abbrev pub NoState : Files → List ℕ → Status → Type 0
NoState files name due = AfterFile files file.State name most_state RefusesState due

-- ---- of a run, for which a state file may be named

-- what is due where one is named that holds no state
abbrev pub NoSaved : Files → (state : Option (List ℕ)) → Status → Type 0
NoSaved files None due = ⊥
NoSaved files (Some name) due = NoState files name due

-- with these parameters the run begins: the file that is named holds them, where files are told; without one, none are saved
abbrev pub SavedFor : (state : Option (List ℕ)) → (held : Option Files) → List HostEnd → List Saved → Type 0
SavedFor None held ends saved = saved ≡ []
SavedFor (Some name) held ends saved = IfSome held (λ files. FileWith files name most_state (SavesFor ends saved))
