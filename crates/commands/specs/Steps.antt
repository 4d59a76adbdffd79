-- How the steps of a command end, and how the command ends with them.
use Rattle.std.specs.Prelude.{ℕ, ◌≡◌, ◌<◌, List, Option, Some, None, Result, Ok, Err}
use Rattle.cm_base.specs.declared.failure.Refused.{Refused}
use Rattle.cm_base.specs.declared.forms.FormFault.{FormFault}
use Rattle.cm_io.specs.Count.{Rose}
use Rattle.cm_io.specs.Files.{Files}
use Rattle.cm_io.specs.Seen.{Seen, IfTold, IfBothTold}
use Rattle.wasm_tree.specs.declared.failure.ModuleRefused.{ModuleRefused}
use Rattle.commands.specs.declared.status.FileRef.{FileRef}
use Rattle.commands.specs.declared.status.FileRef.TheVariants as file
use Rattle.commands.specs.declared.status.Target.TheVariants as target
use Rattle.commands.specs.declared.status.Status.{Status}
use Rattle.commands.specs.declared.status.Status.TheVariants as status
use Rattle.commands.specs.declared.stop.Stop.{Stop}
use Rattle.commands.specs.Compile.{IsDone}
use Rattle.commands.specs.Due.{IsDueFor}
use Rattle.commands.specs.Files.{KeepsUnwritten, least_limit}
use Rattle.commands.specs.Statuses.{MayAnswer, HasCause, OnExplained, OnUnwritten}
use Rattle.commands.specs.Words.{Command, file_written}

-- What stands with a status that ends a step before anything is written or told: which files the step reads, what the
-- folder counted, and what is due where the files are told.
pub data Stopped (before after : Seen) (reads : FileRef → Type 0) (due : Files → Status → Type 0) : Status → Type 0 where
  FileAbsent : (f : FileRef) → reads f → Rose before.absences after.absences → IfTold before (λ files. due files (status.Absent f)) → Stopped before after reads due (status.Absent f)
  ReadFailed : (f : FileRef) → reads f → Rose before.faults after.faults → Stopped before after reads due (status.ReadFault f)
  FileTooBig : (f : FileRef) → (n : ℕ) → reads f → least_limit f < n → IfTold before (λ files. due files (status.TooBig f n)) → Stopped before after reads due (status.TooBig f n)
  PatchRefused : (r : Refused) → reads file.Manifest → IfTold before (λ files. due files (status.Refused r)) → Stopped before after reads due (status.Refused r)
  ModuleIsRefused : (r : ModuleRefused) → reads file.Module → IfTold before (λ files. due files (status.ModuleRefused r)) → Stopped before after reads due (status.ModuleRefused r)
  StateIsRefused : (fault : FormFault) → reads file.State → IfTold before (λ files. due files (status.StateRefused fault)) → Stopped before after reads due (status.StateRefused fault)
  ScriptRefused : (fault : FormFault) → reads file.Input → IfTold before (λ files. due files (status.InputRefused fault)) → Stopped before after reads due (status.InputRefused fault)
  OutOfMemory : Stopped before after reads due status.NoMemory

-- what stands with a status that ends the reading of a stopped run: the state file isn't read or is refused, or the module in
-- it is refused
pub data StateStopped (before after : Seen) (due : Files → Status → Type 0) : Status → Type 0 where
  InState : (s : Status) → Stopped before after (λ f. f ≡ file.State) due s → StateStopped before after due s
  InModule : (r : ModuleRefused) → IfTold before (λ files. due files (status.ModuleRefused r)) → StateStopped before after due (status.ModuleRefused r)

-- what stands with a refusal by a file's bytes, or with want of memory
pub data Refuses (due : Status → Type 0) : Status → Type 0 where
  Refusal : (r : Refused) → due (status.Refused r) → Refuses due (status.Refused r)
  LacksMemory : Refuses due status.NoMemory

-- what stands with a status that ends the writing of the file
pub data Unwritten (before after : Seen) : Status → Type 0 where
  WriteFailed : Rose before.faults after.faults → Unwritten before after (status.WriteFault target.File)
  WriteLacksMemory : after.holds ≡ before.holds → Unwritten before after status.NoMemory

-- the same of a file that is named to be written, where one is
abbrev pub FailsToWrite : (new : Option (List ℕ)) → Seen → Seen → Status → Type 0
FailsToWrite None before after s = ⊥
FailsToWrite (Some name) before after s = Unwritten before after s

-- the status of a command that did its work or was ended
abbrev pub ended : {X : Type 0} → Result X Stop → Status
ended (Ok done) = status.Ok
ended (Err stop) = stop.status

-- what stands with the status that a command answers
pub record Ends (command : Command) (before after : Seen) (answer : Status) : Type 0 where
  pub may : MayAnswer command answer
  pub explained : OnExplained answer (IfTold before (λ files. IsDueFor command files answer))
  pub caused : HasCause before after answer
  pub done : answer ≡ status.Ok → IfBothTold before after (IsDone command)
  pub others : KeepsUnwritten (file_written (Some command)) before after
  pub unwritten : OnUnwritten answer (after.holds ≡ before.holds)

-- what stands with the status that words answer: those of no command change nothing
abbrev pub EndsWords : Option Command → Seen → Seen → Status → Type 0
EndsWords None before after answer = (answer ≡ status.Usage) × (after.holds ≡ before.holds)
EndsWords (Some command) before after answer = Ends command before after answer
