use Rattle.std.specs.Io.KnownBytes.{Keeps}
use Rattle.real_files.proofs.outside.write_again.Given as goal

-- an interrupted write took nothing
abbrev pub invariant-loop : goal.invariant-loop
invariant-loop g l = Keeps (g.W.Write.contents l.initial.to) (g.W.Write.contents l.to)
