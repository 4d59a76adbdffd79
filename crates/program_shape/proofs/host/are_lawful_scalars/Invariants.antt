use Rattle.std.proofs.Common.{take, All}
use Rattle.cm_base.specs.HostEnds.{IsLawfulScalar}
use Rattle.program_shape.proofs.host.are_lawful_scalars.Given as goal

abbrev pub invariant-loop-scalar : goal.invariant-loop-scalar
invariant-loop-scalar l = All IsLawfulScalar (take l.scalar-index l.shape)
