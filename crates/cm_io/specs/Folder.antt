-- The answers of a folder, each with a fact that stands with it.
use Rattle.std.specs.Prelude.{ℕ, List}
use Rattle.cm_io.specs.declared.folder.Read.{Read}
use Rattle.cm_io.specs.declared.folder.Read.TheVariants.{Bytes, Absent, Failed, NoMemory}
use Rattle.cm_io.specs.declared.folder.Wrote.{Wrote}
use Rattle.cm_io.specs.declared.folder.Wrote.TheVariants.{Ok as Done, Failed as Broken, NoMemory as Short}

-- a fact of the bytes that were read
abbrev pub IfRead : Read → (List ℕ → Type 0) → Type 0
IfRead (Bytes bytes) P = P bytes
IfRead Absent P = Unit {0}
IfRead Failed P = Unit {0}
IfRead NoMemory P = Unit {0}

-- a fact where there is no such file
abbrev pub OnAbsent : Read → Type 0 → Type 0
OnAbsent (Bytes bytes) P = Unit {0}
OnAbsent Absent P = P
OnAbsent Failed P = Unit {0}
OnAbsent NoMemory P = Unit {0}

-- a fact where a read failed
abbrev pub OnReadFailed : Read → Type 0 → Type 0
OnReadFailed (Bytes bytes) P = Unit {0}
OnReadFailed Absent P = Unit {0}
OnReadFailed Failed P = P
OnReadFailed NoMemory P = Unit {0}

-- a fact where a file was written
abbrev pub OnWritten : Wrote → Type 0 → Type 0
OnWritten Done P = P
OnWritten Broken P = Unit {0}
OnWritten Short P = Unit {0}

-- a fact where a write failed
abbrev pub OnWriteFailed : Wrote → Type 0 → Type 0
OnWriteFailed Done P = Unit {0}
OnWriteFailed Broken P = P
OnWriteFailed Short P = Unit {0}

-- a fact where a write lacked memory
abbrev pub OnWriteNoMemory : Wrote → Type 0 → Type 0
OnWriteNoMemory Done P = Unit {0}
OnWriteNoMemory Broken P = Unit {0}
OnWriteNoMemory Short P = P
