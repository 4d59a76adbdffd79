-- What each status needs: docs/COMMANDS.md, "Statuses".
use Rattle.std.specs.Prelude.{ℕ, ◌≡◌, ◌<◌, ◌⊎◌, List, Option, Some, None}
use Rattle.cm_base.specs.declared.failure.Fail.{Fail}
use Rattle.cm_base.specs.declared.failure.Fail.TheVariants as fail
use Rattle.cm_io.specs.Count.{Rose}
use Rattle.cm_io.specs.Seen.{Seen}
use Rattle.wasm_tree.specs.declared.failure.ModuleFail.{ModuleFail}
use Rattle.wasm_tree.specs.declared.failure.ModuleFail.TheVariants as no_module
use Rattle.commands.specs.declared.status.FileRef.{FileRef}
use Rattle.commands.specs.declared.status.FileRef.TheVariants as file
use Rattle.commands.specs.declared.status.Target.{Target}
use Rattle.commands.specs.declared.status.Target.TheVariants as target
use Rattle.commands.specs.declared.status.Status.{Status}
use Rattle.commands.specs.declared.status.Status.TheVariants as status
use Rattle.commands.specs.Files.{IsPatchFile, IsRenderFile, IsPlayFile, IsResumeFile, least_limit}
use Rattle.commands.specs.Words.{Command, Compile, Render, Play, Resume}
use Rattle.run_lines.specs.declared.ending.RunEnd.{RunEnd}
use Rattle.run_lines.specs.declared.ending.RunEnd.TheVariants as run

-- the number that the program exits with
abbrev pub number_of : Status → ℕ
number_of status.Ok = 0
number_of status.Usage = 1
number_of (status.Absent f) = 2
number_of (status.ReadFault f) = 3
number_of (status.TooBig f length) = 4
number_of (status.Refused r) = 5
number_of (status.StateRefused fault) = 6
number_of (status.InputRefused fault) = 7
number_of (status.ModuleRefused refused) = 8
number_of (status.TurnsSpent at) = 9
number_of (status.StepsSpent at) = 10
number_of (status.Trapped at) = 11
number_of (status.WriteFault t) = 12
number_of (status.ListenerFault number) = 13
number_of status.NoMemory = 14

-- the status of a phase that gives no result
abbrev pub status_of : Fail → Status
status_of (fail.Refused refused) = status.Refused refused
status_of fail.NoMemory = status.NoMemory

-- the status of a module that isn't read or isn't valid
abbrev pub status_of_module : ModuleFail → Status
status_of_module (no_module.Refused refused) = status.ModuleRefused refused
status_of_module no_module.NoMemory = status.NoMemory

-- the status of a run that ended so
abbrev pub status_of_run : RunEnd → Status
status_of_run run.Ended = status.Ok
status_of_run (run.StepsSpent at) = status.StepsSpent at
status_of_run (run.Trapped at) = status.Trapped at
status_of_run run.PutFailed = status.WriteFault target.Out
status_of_run (run.ListenerFailed number) = status.ListenerFault number
status_of_run run.NoMemory = status.NoMemory

-- the status of a patch's run whose module's run ended so: the reductions are those that the turns are worth
abbrev pub status_of_patch_run : RunEnd → Status
status_of_patch_run (run.StepsSpent at) = status.TurnsSpent at
status_of_patch_run end = status_of_run end

-- ---- which statuses a command can answer at all

-- the files that a command reads
abbrev pub Reads : Command → FileRef → Type 0
Reads (Compile manifest out) f = IsPatchFile f
Reads (Render manifest input turns state) f = IsRenderFile state f
Reads (Play wasm input steps) f = IsPlayFile f
Reads (Resume state input steps new) f = IsResumeFile f

-- the output, and the file that is named, where one is
abbrev pub WritesAlso : Option (List ℕ) → Target → Type 0
WritesAlso None t = t ≡ target.Out
WritesAlso (Some name) t = Unit {0}

-- what a command writes
abbrev pub Writes : Command → Target → Type 0
Writes (Compile manifest out) t = t ≡ target.File
Writes (Render manifest input turns state) t = t ≡ target.Out
Writes (Play wasm input steps) t = t ≡ target.Out
Writes (Resume state input steps new) t = WritesAlso new t

-- the commands that run a patch
abbrev pub RunsPatch : Command → Type 0
RunsPatch (Compile manifest out) = ⊥
RunsPatch (Render manifest input turns state) = Unit {0}
RunsPatch (Play wasm input steps) = ⊥
RunsPatch (Resume state input steps new) = ⊥

-- the commands that run a module that they are given
abbrev pub RunsModule : Command → Type 0
RunsModule (Compile manifest out) = ⊥
RunsModule (Render manifest input turns state) = ⊥
RunsModule (Play wasm input steps) = Unit {0}
RunsModule (Resume state input steps new) = Unit {0}

-- A command answers for the files that it reads, also by refusing them, and for what it writes; one that runs a patch or a
-- module answers for the run and for the listeners, and one that runs a module for the module too.
abbrev pub MayAnswer : Command → Status → Type 0
MayAnswer command status.Ok = Unit {0}
MayAnswer command status.NoMemory = Unit {0}
MayAnswer command (status.Absent f) = Reads command f
MayAnswer command (status.ReadFault f) = Reads command f
MayAnswer command (status.TooBig f length) = Reads command f
MayAnswer command (status.Refused r) = Reads command file.Manifest
MayAnswer command (status.StateRefused fault) = Reads command file.State
MayAnswer command (status.InputRefused fault) = Reads command file.Input
MayAnswer command (status.ModuleRefused refused) = RunsModule command
MayAnswer command (status.TurnsSpent at) = RunsPatch command
MayAnswer command (status.StepsSpent at) = RunsModule command
MayAnswer command (status.Trapped at) = RunsModule command
MayAnswer command (status.WriteFault t) = Writes command t
MayAnswer command (status.ListenerFault number) = RunsPatch command ⊎ RunsModule command
MayAnswer command _ = ⊥

-- ---- what stands with a status

-- The folder counted what was absent and what failed, and more was read than a file may have. What stands with a fault of
-- the output or of a listener is said with what was told.
abbrev pub HasCause : Seen → Seen → Status → Type 0
HasCause before after (status.Absent f) = Rose before.absences after.absences
HasCause before after (status.ReadFault f) = Rose before.faults after.faults
HasCause before after (status.WriteFault target.File) = Rose before.faults after.faults
HasCause before after (status.TooBig f length) = least_limit f < length
HasCause before after _ = Unit {0}

-- A fact for the statuses that the words and the files explain. A fault of the folder, of the output or of a listener and
-- want of memory may come instead of any.
abbrev pub OnExplained : Status → Type 0 → Type 0
OnExplained (status.ReadFault f) P = Unit {0}
OnExplained (status.WriteFault t) P = Unit {0}
OnExplained (status.ListenerFault number) P = Unit {0}
OnExplained status.NoMemory P = Unit {0}
OnExplained _ P = P

-- a fact where no file was written or tried to be: not after `Ok`, nor after a failed write
abbrev pub OnUnwritten : Status → Type 0 → Type 0
OnUnwritten status.Ok P = Unit {0}
OnUnwritten (status.WriteFault target.File) P = Unit {0}
OnUnwritten _ P = P
