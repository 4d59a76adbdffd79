use Rattle.std.proofs.Common.{take, All}
use Rattle.cm_base.specs.HostEnds.{IsLawfulEnd}
use Rattle.program_shape.proofs.host.are_lawful_ends.Given as goal

abbrev pub invariant-loop-end : goal.invariant-loop-end
invariant-loop-end l = All IsLawfulEnd (take l.end-index l.ends)
