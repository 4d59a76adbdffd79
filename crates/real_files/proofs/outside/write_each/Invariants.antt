use Rattle.std.proofs.Common.{length}
use Rattle.real_files.proofs.Adapters.{Wrote}
use Rattle.real_files.proofs.outside.write_each.Given as goal

abbrev pub decreases-loop-rest : goal.decreases-loop-rest
decreases-loop-rest g l = length l.rest

-- the bytes before the rest are written
abbrev pub invariant-loop-rest : goal.invariant-loop-rest
invariant-loop-rest g l = Wrote (g.W.Write.contents l.fn.to) (g.W.Write.contents l.to) l.fn.bytes l.rest
