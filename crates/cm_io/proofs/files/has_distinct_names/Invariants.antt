use Rattle.std.proofs.Common.{◌↔◌, drop}
use Rattle.cm_io.specs.Files.{HasDistinctNames}
use Rattle.cm_io.proofs.files.has_distinct_names.Given as goal

-- all names are distinct exactly where those that are left are
abbrev pub invariant-loop-at : goal.invariant-loop-at
invariant-loop-at l = HasDistinctNames (drop l.at l.files) ↔ HasDistinctNames l.fn.files
