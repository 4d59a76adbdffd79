-- What is seen of a folder at one time, and how calls change it.
use Rattle.std.specs.Prelude.{ℕ, ◌≡◌, ◌≤◌, Option, IfSome}
use Rattle.cm_io.specs.Files.{Files}

-- what it tells of its files, how many of its calls failed, and how many of its reads found no file
pub record Seen : Type 0 where
  pub holds : Option Files
  pub faults : ℕ
  pub absences : ℕ

-- a fact of the files, where they are told
abbrev pub IfTold : Seen → (Files → Type 0) → Type 0
IfTold seen P = IfSome seen.holds P

-- a fact of the files before and after, where both are told
abbrev pub IfBothTold : Seen → Seen → (Files → Files → Type 0) → Type 0
IfBothTold before after P = IfTold before (λ old. IfTold after (λ new. P old new))

-- no count fell
pub record CountsStay (before after : Seen) : Type 0 where
  pub faults : before.faults ≤ after.faults
  pub absences : before.absences ≤ after.absences

-- the files are as before, and no count fell
pub record OnlyRead (before after : Seen) : Type 0 where
  pub files : after.holds ≡ before.holds
  pub counts : CountsStay before after
