use Rattle.std.proofs.Common.{◌≡◌, drop}
use Rattle.cm_io.specs.Files.{file_at}
use Rattle.cm_io.proofs.files.file_named.Given as goal

-- the file is among those that are left, if there is one
abbrev pub invariant-loop-file : goal.invariant-loop-file
invariant-loop-file l = file_at (drop l.file-index l.files) l.name ≡ file_at l.files l.name
