-- Which module and script files hold, and what is due where they hold none: docs/COMMANDS.md, "play" and "The order of work".
use Rattle.std.specs.Prelude.{ℕ, ◌≡◌, ◌⊎◌, List, [], Option, Ok, Err, IfSome}
use Rattle.cm_base.specs.declared.forms.FormFault.{FormFault}
use Rattle.cm_base.specs.declared.host.HostEnd.{HostEnd}
use Rattle.cm_base.specs.declared.play.Saved.{Saved}
use Rattle.cm_base.specs.declared.play.Script.{Script}
use Rattle.cm_base.specs.Players.{Outcome}
use Rattle.cm_io.specs.Files.{Files}
use Rattle.input_script.specs.Script.{script_in}
use Rattle.item_lines.specs.Telling.{Outside}
use Rattle.run_lines.specs.declared.ending.RunEnd.{RunEnd}
use Rattle.run_lines.specs.Runs.{RunTells, end_of}
use Rattle.wasm_reader.specs.Fault.{FailsAt}
use Rattle.wasm_tree.specs.declared.failure.ModuleRefused.{ModuleRefused}
use Rattle.wasm_tree.specs.declared.module.Module.{Module}
use Rattle.wasm_tree.specs.HostRun.{host_run}
use Rattle.wasm_tree.specs.Refusal.{IsRefusal}
use Rattle.wasm_tree.specs.Section.{CmajorSection, ends_of}
use Rattle.wasm_tree.specs.Spelled.{Spelled}
use Rattle.wasm_tree.specs.Valid.{Valid}
use Rattle.commands.specs.declared.status.FileRef.TheVariants as file
use Rattle.commands.specs.declared.status.Status.{Status}
use Rattle.commands.specs.declared.status.Status.TheVariants as status
use Rattle.commands.specs.Files.{FileWith, AfterFile, least_limit}
use Rattle.commands.specs.Statuses.{status_of_run}

-- ---- the module

-- bytes that spell a valid module, which has this section
pub record SpellsValid (m : Module) (section : CmajorSection) (bytes : List ℕ) : Type 0 where
  pub spelled : Spelled bytes m
  pub valid : Valid m section

-- the file holds this valid module
abbrev pub HasModule : Files → List ℕ → Module → CmajorSection → Type 0
HasModule files name m section = FileWith files name (least_limit file.Module) (SpellsValid m section)

-- bytes are refused that spell no module, or one that isn't valid: a rule fails at an offset
pub data RefusesModule (bytes : List ℕ) : Status → Type 0 where
  Misspelled : (refused : ModuleRefused) → FailsAt refused.rule refused.offset bytes → RefusesModule bytes (status.ModuleRefused refused)
  Invalid : (m : Module) → (refused : ModuleRefused) → Spelled bytes m → IsRefusal refused m bytes → RefusesModule bytes (status.ModuleRefused refused)

-- what is due where the file holds no valid module
abbrev pub NoModule : Files → List ℕ → Status → Type 0
NoModule files name due = AfterFile files file.Module name (least_limit file.Module) RefusesModule due

-- ---- the script

-- the file holds this script for the endpoints
abbrev pub HasScript : Files → List ℕ → List HostEnd → Script → Type 0
HasScript files name ends script = FileWith files name (least_limit file.Input) (λ bytes. script_in ends bytes ≡ Ok script)

-- bytes are refused that are no script for the endpoints, with the first rule that fails
pub data RefusesScript (ends : List HostEnd) (bytes : List ℕ) : Status → Type 0 where
  Malformed : (fault : FormFault) → script_in ends bytes ≡ Err fault → RefusesScript ends bytes (status.InputRefused fault)

-- what is due where the file holds no script for the endpoints
abbrev pub NoScript : Files → List ℕ → List HostEnd → Status → Type 0
NoScript files name ends due = AfterFile files file.Input name (least_limit file.Input) (RefusesScript ends) due

-- ---- the run

-- the run of a module over a script with so many reductions for each part, from saved parameters on
abbrev pub run_of : Module → CmajorSection → List Saved → Script → (steps : ℕ) → Outcome
run_of m section saved script steps = host_run m section saved script script.frames steps

-- what is due for the script, where there is one and no earlier answer came: the run decides
abbrev pub DueOver : Files → List ℕ → (steps : ℕ) → Module → CmajorSection → Status → Type 0
DueOver files input steps m section due =
    NoScript files input (ends_of section) due
    ⊎ ((script : Script) × HasScript files input (ends_of section) script × (due ≡ status_of_run (end_of (run_of m section [] script steps).ending)))

-- what is due for `play`
abbrev pub IsPlayDue : Files → (wasm input : List ℕ) → (steps : ℕ) → Status → Type 0
IsPlayDue files wasm input steps due =
    NoModule files wasm due ⊎ ((m : Module) × (section : CmajorSection) × HasModule files wasm m section × DueOver files input steps m section due)

-- ---- what is told

-- the answers that come before a run
abbrev pub IsBefore : Status → Type 0
IsBefore (status.Absent f) = Unit {0}
IsBefore (status.ReadFault f) = Unit {0}
IsBefore (status.TooBig f length) = Unit {0}
IsBefore (status.Refused refused) = Unit {0}
IsBefore (status.ModuleRefused refused) = Unit {0}
IsBefore (status.StateRefused fault) = Unit {0}
IsBefore (status.InputRefused fault) = Unit {0}
IsBefore status.NoMemory = Unit {0}
IsBefore _ = ⊥

-- the run of a module is told that begins with nothing saved, and the answer is that of its end
pub record RunIsTold (m : Module) (section : CmajorSection) (script : Script) (steps : ℕ) (before after : Outside) (answer : Status) : Type 0 where
  pub end : RunEnd
  pub answered : answer ≡ status_of_run end
  pub tells : RunTells (ends_of section) (run_of m section [] script steps) before after end

-- the run of a valid module over a script is told; where files are told, they held both
pub record PlayRuns (held : Option Files) (wasm input : List ℕ) (steps : ℕ) (before after : Outside) (answer : Status) : Type 0 where
  pub m : Module
  pub section : CmajorSection
  pub script : Script
  pub valid : Valid m section
  pub has_module : IfSome held (λ files. HasModule files wasm m section)
  pub has_script : IfSome held (λ files. HasScript files input (ends_of section) script)
  pub told : RunIsTold m section script steps before after answer
