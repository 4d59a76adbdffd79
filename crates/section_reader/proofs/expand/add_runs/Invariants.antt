use Rattle.std.proofs.Common.{◌≡◌, ◌+◌, ◌≤◌, take}
use Rattle.section_reader.specs.Raw.{scalars_in}
use Rattle.section_reader.proofs.expand.add_runs.Given as goal

abbrev pub invariant-loop-run : goal.invariant-loop-run
invariant-loop-run l = record { counted : l.count ≡ l.fn.before + scalars_in (take l.run-index l.runs); within : l.count ≤ 1048576 }
