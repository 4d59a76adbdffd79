use Rattle.std.proofs.Common.{◌≡◌, ◌++◌}
use Rattle.std.specs.Prelude.{replicate}
use Rattle.section_reader.proofs.expand.add_run.Given as goal

abbrev pub invariant-loop : goal.invariant-loop
invariant-loop l = l.shape ≡ l.fn.shape ++ replicate l.counter l.run.kind
