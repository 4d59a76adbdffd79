use Rattle.std.specs.Io.KnownBytes.{Keeps}
use Rattle.real_files.proofs.outside.read_again.Given as goal

-- an interrupted read took nothing
abbrev pub invariant-loop : goal.invariant-loop
invariant-loop g l = Keeps (g.R.Read.remaining l.initial.from) (g.R.Read.remaining l.from)
