use Rattle.std.proofs.Common.{◌≡◌, take}
use Rattle.section_reader.specs.Raw.{shape_of}
use Rattle.section_reader.proofs.expand.shape.Given as goal

abbrev pub invariant-loop-run : goal.invariant-loop-run
invariant-loop-run l = l.shape ≡ shape_of (take l.run-index l.runs)
