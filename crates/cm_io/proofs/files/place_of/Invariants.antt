use Rattle.std.proofs.Common.{◌≡◌, ◌++◌, take, drop}
use Rattle.cm_io.specs.Files.{with_file}
use Rattle.cm_io.proofs.files.place_of.Given as goal

-- the file comes among those that are left
abbrev pub invariant-loop-at : goal.invariant-loop-at
invariant-loop-at l = (bytes : _) → with_file l.files l.name bytes ≡ take l.at l.files ++ with_file (drop l.at l.files) l.name bytes
