use Rattle.std.specs.Io.KnownBytes.{Keeps}
use Rattle.real_files.proofs.outside.flush_again.Given as goal

-- flushing writes nothing
abbrev pub invariant-loop : goal.invariant-loop
invariant-loop g l = Keeps (g.W.Write.contents l.initial.to) (g.W.Write.contents l.to)
