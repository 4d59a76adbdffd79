-- Which stopped runs state files hold, how they go on, and what is due for `resume`: docs/COMMANDS.md, "resume" and "The
-- order of work".
use Rattle.std.specs.Prelude.{ℕ, ◌≡◌, ◌⊎◌, List, Option, Some, None, IfSome}
use Rattle.cm_base.specs.declared.forms.FormRule.{FormRule}
use Rattle.cm_base.specs.declared.forms.FormRule.TheVariants as rule
use Rattle.cm_base.specs.declared.forms.FormPart.TheVariants.{Whole}
use Rattle.cm_base.specs.declared.play.Saved.{Saved}
use Rattle.cm_base.specs.declared.play.Script.{Script}
use Rattle.cm_base.specs.Players.{AtEnd}
use Rattle.cm_io.specs.Files.{Files, file_at}
use Rattle.cm_io.specs.Seen.{Seen, IfTold}
use Rattle.item_lines.specs.Telling.{Outside}
use Rattle.json_value.specs.Form.{fault}
use Rattle.run_lines.specs.declared.ending.RunEnd.{RunEnd}
use Rattle.run_lines.specs.declared.ending.RunEnd.TheVariants as run
use Rattle.run_lines.specs.Runs.{RunTells, end_of}
use Rattle.saved_state.specs.declared.state.State.TheVariants as states
use Rattle.saved_state.specs.declared.state.Version2.{Version2}
use Rattle.saved_state.specs.Applied.{restored, state_with}
use Rattle.saved_state.specs.Finals.{final_values}
use Rattle.saved_state.specs.Version2.{IsVersion2}
use Rattle.wasm_runner.specs.Snapshots.{Fits}
use Rattle.wasm_tree.specs.declared.module.Module.{Module}
use Rattle.wasm_tree.specs.HostRun.{Instance}
use Rattle.wasm_tree.specs.Section.{CmajorSection, ends_of}
use Rattle.wasm_tree.specs.Stopped.{resumed_run, resumed_stops, snapshot_of}
use Rattle.wasm_tree.specs.Valid.{Valid}
use Rattle.commands.specs.declared.status.FileRef.TheVariants as file
use Rattle.commands.specs.declared.status.Status.{Status}
use Rattle.commands.specs.declared.status.Status.TheVariants as status
use Rattle.commands.specs.declared.status.Target.TheVariants as target
use Rattle.commands.specs.Files.{FileWith, AfterFile}
use Rattle.commands.specs.Playing.{SpellsValid, RefusesModule, HasScript, NoScript}
use Rattle.commands.specs.Restoring.{SpellsState, RefusesState, most_state}
use Rattle.commands.specs.Statuses.{status_of_run}

-- ---- the stopped run

-- bytes of a state file of version 2 that has this state: the bytes in it spell this valid module, and the snapshot is one of the module
pub record SpellsStopped (state : Version2) (m : Module) (section : CmajorSection) (bytes : List ℕ) : Type 0 where
  pub spelled : SpellsState bytes (states.Version2 state)
  pub of : SpellsValid m section state.module_bytes
  pub fits : Fits m section state.snapshot

-- the file holds this stopped run
abbrev pub HasStopped : Files → List ℕ → Version2 → Module → CmajorSection → Type 0
HasStopped files name state m section = FileWith files name most_state (SpellsStopped state m section)

-- the whole file is refused by this rule
abbrev pub refused_whole : FormRule → Status
refused_whole failed = status.StateRefused (fault failed Whole 0)

-- Bytes are refused that are no state, that are of version 1, whose module is refused, at an offset within the module's
-- bytes, or whose snapshot isn't one of the module.
pub data RefusesStopped (bytes : List ℕ) : Status → Type 0 where
  LacksState : (s : Status) → RefusesState bytes s → RefusesStopped bytes s
  IsVersion1 : (saved : List Saved) → SpellsState bytes (states.Version1 saved) → RefusesStopped bytes (refused_whole rule.Version)
  LacksModule : (state : Version2) (s : Status) → SpellsState bytes (states.Version2 state) → RefusesModule state.module_bytes s → RefusesStopped bytes s
  Misfits : (state : Version2) (m : Module) (section : CmajorSection) → SpellsState bytes (states.Version2 state) → SpellsValid m section state.module_bytes → (Fits m section state.snapshot → ⊥) →
      RefusesStopped bytes (refused_whole rule.Snapshot)

-- what is due where the file holds no stopped run
abbrev pub NoStopped : Files → List ℕ → Status → Type 0
NoStopped files name due = AfterFile files file.State name most_state RefusesStopped due

-- ---- the run

-- what is due for the script, where there is one and no earlier answer came: the run decides
abbrev pub ResumeDueOver : Files → List ℕ → (steps : ℕ) → Version2 → Module → CmajorSection → Status → Type 0
ResumeDueOver files input steps state m section due =
    NoScript files input (ends_of section) due
    ⊎ ((script : Script) × HasScript files input (ends_of section) script × (due ≡ status_of_run (end_of (resumed_run m section state.snapshot script script.frames steps).ending)))

-- what is due for `resume`
abbrev pub IsResumeDue : Files → (state input : List ℕ) → (steps : ℕ) → Status → Type 0
IsResumeDue files state input steps due =
    NoStopped files state due
    ⊎ ((stopped : Version2) × (m : Module) × (section : CmajorSection) × HasStopped files state stopped m section × ResumeDueOver files input steps stopped m section due)

-- ---- what is told

-- the answer of a run that ended so; after one that came to its end the file that is named is written, where one is
pub data AnswersAfter (new : Option (List ℕ)) : RunEnd → Status → Type 0 where
  ByRun : (end : RunEnd) → AnswersAfter new end (status_of_run end)
  ByFault : (name : List ℕ) → new ≡ Some name → AnswersAfter new run.Ended (status.WriteFault target.File)
  ByMemory : (name : List ℕ) → new ≡ Some name → AnswersAfter new run.Ended status.NoMemory

-- The resumed run of a valid module over a script is told, from a snapshot of it on; where files are told, they held both.
pub record ResumeRuns (held : Option Files) (state input : List ℕ) (steps : ℕ) (new : Option (List ℕ)) (before after : Outside) (answer : Status) : Type 0 where
  pub stopped : Version2
  pub m : Module
  pub section : CmajorSection
  pub script : Script
  pub valid : Valid m section
  pub fits : Fits m section stopped.snapshot
  pub has_state : IfSome held (λ files. HasStopped files state stopped m section)
  pub has_script : IfSome held (λ files. HasScript files input (ends_of section) script)
  pub end : RunEnd
  pub answered : AnswersAfter new end answer
  pub tells : RunTells (ends_of section) (resumed_run m section stopped.snapshot script script.frames steps) before after end

-- ---- what is written

-- the files hold this state of version 2 under this name
pub record HoldsState (files : Files) (name : List ℕ) (state : Version2) : Type 0 where
  pub bytes : List ℕ
  pub held : file_at files name ≡ Some bytes
  pub is_state : IsVersion2 bytes state

-- the state that a stopped run comes to over a script, with this instance at its end: the parameters have the last values that
-- the script sets or sends, the module is the same
abbrev pub state_after : Version2 → Module → CmajorSection → Script → Instance → Version2
state_after stopped m section script instance =
    state_with (ends_of section) (final_values (ends_of section) (restored (ends_of section) stopped.saved) script) stopped.module_bytes (snapshot_of m section instance)

-- the file to write holds the state at the end of the resumed run, whose state and script the files held before
pub record IsResumed (old new : Files) (state input : List ℕ) (steps : ℕ) (written : List ℕ) : Type 0 where
  pub stopped : Version2
  pub m : Module
  pub section : CmajorSection
  pub script : Script
  pub has_state : HasStopped old state stopped m section
  pub has_script : HasScript old input (ends_of section) script
  pub instance : Instance
  pub ends : resumed_stops m section stopped.snapshot script script.frames steps ≡ AtEnd instance
  pub holds : HoldsState new written (state_after stopped m section script instance)

-- where a file is named to be written, the files that are told hold this state under its name
abbrev pub HoldsNew : (new : Option (List ℕ)) → Seen → Version2 → Type 0
HoldsNew None after state = Unit {0}
HoldsNew (Some name) after state = IfTold after (λ files. HoldsState files name state)
