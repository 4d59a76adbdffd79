-- The files that commands read and write: docs/COMMANDS.md, "Sources" and "What is written".
use Rattle.std.specs.Prelude.{ℕ, ◌≡◌, ◌≤◌, ◌<◌, ◌+◌, ◌==◌, ◌⊎◌, List, length, Option, Some, None, if◌then◌else◌}
use Rattle.cm_io.specs.Files.{Files, file_at, KeepsOthers}
use Rattle.cm_io.specs.Seen.{Seen}
use Rattle.commands.specs.declared.status.FileRef.{FileRef}
use Rattle.commands.specs.declared.status.FileRef.TheVariants as file
use Rattle.commands.specs.declared.status.Status.{Status}
use Rattle.commands.specs.declared.status.Status.TheVariants as status

-- The least limit that a file can have, in bytes. Only what was read decides on a higher one: a source after
-- the first may have what those before it have left, and a state file of version 2 more than one of version 1.
abbrev pub least_limit : FileRef → ℕ
least_limit file.Manifest = 1048576
least_limit (file.Source number) = if number == 1 then 1048576 else 0
least_limit file.State = 1048576
least_limit file.Input = 8388608
least_limit file.Module = 33554432

-- the files of a patch: its manifest, and up to 64 sources
abbrev pub IsPatchFile : FileRef → Type 0
IsPatchFile file.Manifest = Unit {0}
IsPatchFile (file.Source number) = (1 ≤ number) × (number ≤ 64)
IsPatchFile file.State = ⊥
IsPatchFile file.Input = ⊥
IsPatchFile file.Module = ⊥

-- the files of `play`: the module and the script
abbrev pub IsPlayFile : FileRef → Type 0
IsPlayFile file.Manifest = ⊥
IsPlayFile (file.Source number) = ⊥
IsPlayFile file.State = ⊥
IsPlayFile file.Input = Unit {0}
IsPlayFile file.Module = Unit {0}

-- the state file with whose parameters a run begins, where one is named
abbrev pub IsStateFile : (state : Option (List ℕ)) → FileRef → Type 0
IsStateFile None f = ⊥
IsStateFile (Some name) f = f ≡ file.State

-- the files of `render`: those of the patch, the state that is named and the script
abbrev pub IsRenderFile : (state : Option (List ℕ)) → FileRef → Type 0
IsRenderFile state file.Manifest = Unit {0}
IsRenderFile state (file.Source number) = (1 ≤ number) × (number ≤ 64)
IsRenderFile state file.State = IsStateFile state file.State
IsRenderFile state file.Input = Unit {0}
IsRenderFile state file.Module = ⊥

-- the files of `resume`: the state and the script
abbrev pub IsResumeFile : FileRef → Type 0
IsResumeFile file.Manifest = ⊥
IsResumeFile (file.Source number) = ⊥
IsResumeFile file.State = Unit {0}
IsResumeFile file.Input = Unit {0}
IsResumeFile file.Module = ⊥

-- the file of this name has these bytes, no more than its limit
pub record HasFile (files : Files) (name : List ℕ) (limit : ℕ) (bytes : List ℕ) : Type 0 where
  pub held : file_at files name ≡ Some bytes
  pub within : length bytes ≤ limit

-- the file of this name has bytes within its limit, of which this holds
pub record FileWith (files : Files) (name : List ℕ) (limit : ℕ) (P : List ℕ → Type 0) : Type 0 where
  pub bytes : List ℕ
  pub file : HasFile files name limit bytes
  pub holds : P bytes

-- what is due where a file has no bytes to work on: of one that is too long one byte more than the limit is read
pub data Unread (files : Files) (f : FileRef) (name : List ℕ) (limit : ℕ) : Status → Type 0 where
  Missing : file_at files name ≡ None → Unread files f name limit (status.Absent f)
  Long : (bytes : List ℕ) → file_at files name ≡ Some bytes → limit < length bytes → Unread files f name limit (status.TooBig f (limit + 1))

-- what is due after a file: it has no bytes to work on, or its bytes decide
abbrev pub AfterFile : Files → FileRef → List ℕ → ℕ → (List ℕ → Status → Type 0) → Status → Type 0
AfterFile files f name limit decide due = Unread files f name limit due ⊎ FileWith files name limit (λ bytes. decide bytes due)

-- every file is as before, but for the one to write, where there is one
abbrev pub KeepsUnwritten : Option (List ℕ) → Seen → Seen → Type 0
KeepsUnwritten None before after = after.holds ≡ before.holds
KeepsUnwritten (Some name) before after = KeepsOthers before.holds after.holds name
