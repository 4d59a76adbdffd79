-- The objects in memory, and what each of their calls leaves for the answer that it gave.
use Rattle.std.specs.Prelude.{ℕ, List, [], ◌∷◌, ◌++◌, take}
use Rattle.cm_io.specs.Count.{raised}
use Rattle.cm_io.specs.Files.{Files, with_file}
use Rattle.cm_base.specs.declared.play.Item.{Item}
use Rattle.cm_io.specs.declared.folder.Read.{Read}
use Rattle.cm_io.specs.declared.folder.Read.TheVariants.{Bytes, Absent, Failed, NoMemory}
use Rattle.cm_io.specs.declared.folder.Wrote.{Wrote}
use Rattle.cm_io.specs.declared.folder.Wrote.TheVariants.{Ok as WriteDone, Failed as WriteBroken, NoMemory as WriteShort}
use Rattle.cm_io.specs.declared.sink.Put.{Put}
use Rattle.cm_io.specs.declared.sink.Put.TheVariants.{Ok as PutDone, Failed as PutBroken, NoMemory as PutShort}
use Rattle.cm_io.specs.declared.listener.Heard.{Heard}
use Rattle.cm_io.specs.declared.listener.Heard.TheVariants.{On as HeardDone, Failed as HeardBroken, NoMemory as HeardShort}

-- a folder: its files, the numbers of the calls that fail, how many calls there were, and its two counts
pub record FolderState : Type 0 where
  pub files : Files
  pub failing : List ℕ
  pub calls : ℕ
  pub faults : ℕ
  pub absences : ℕ

-- after a read only its own answer is counted
abbrev pub read_leaves : FolderState → Read → FolderState
read_leaves folder (Bytes bytes) = record folder { calls = raised folder.calls }
read_leaves folder Absent = record folder { calls = raised folder.calls; absences = raised folder.absences }
read_leaves folder Failed = record folder { calls = raised folder.calls; faults = raised folder.faults }
read_leaves folder NoMemory = record folder { calls = raised folder.calls }

-- after a write the file is there, unless the write failed or lacked memory: then the files are as before
abbrev pub write_leaves : FolderState → List ℕ → List ℕ → Wrote → FolderState
write_leaves folder name bytes WriteDone = record folder { files = with_file folder.files name bytes; calls = raised folder.calls }
write_leaves folder name bytes WriteBroken = record folder { calls = raised folder.calls; faults = raised folder.faults }
write_leaves folder name bytes WriteShort = record folder { calls = raised folder.calls }

-- a sink: what was written, the numbers of the calls that fail and that find no memory, how much of its
-- piece a failing call writes, how many calls there were, and its two counts
pub record SinkState : Type 0 where
  pub written : List ℕ
  pub failing : List ℕ
  pub refusing : List ℕ
  pub kept : ℕ
  pub calls : ℕ
  pub faults : ℕ
  pub refusals : ℕ

-- after a put the piece is there, or where it failed the part that such a call keeps
abbrev pub put_leaves : SinkState → List ℕ → Put → SinkState
put_leaves sink piece PutDone = record sink { written = sink.written ++ piece; calls = raised sink.calls }
put_leaves sink piece PutBroken = record sink { written = sink.written ++ take sink.kept piece; calls = raised sink.calls; faults = raised sink.faults }
put_leaves sink piece PutShort = record sink { calls = raised sink.calls; refusals = raised sink.refusals }

-- a recorder: what it heard and how much that is, the numbers of the calls that fail and that find no
-- memory, how many calls there were, and its two counts
pub record RecorderState : Type 0 where
  pub heard : List Item
  pub count : ℕ
  pub failing : List ℕ
  pub refusing : List ℕ
  pub calls : ℕ
  pub faults : ℕ
  pub refusals : ℕ

-- after an item it is heard, unless the call failed or lacked memory
abbrev pub hear_leaves : RecorderState → Item → Heard → RecorderState
hear_leaves recorder item HeardDone = record recorder { heard = recorder.heard ++ item ∷ []; count = raised recorder.count; calls = raised recorder.calls }
hear_leaves recorder item HeardBroken = record recorder { calls = raised recorder.calls; faults = raised recorder.faults }
hear_leaves recorder item HeardShort = record recorder { calls = raised recorder.calls; refusals = raised recorder.refusals }
