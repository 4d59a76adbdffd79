use Rattle.program_shape.proofs.host.are_lawful_scalars.Goals as goal
use Rattle.std.proofs.Common.{refl}
use Rattle.cm_base.specs.HostEnds.{IsLawfulScalar}
use Rattle.cm_base.specs.declared.host.Scalar.TheVariants.{Int32}
use Rattle.program_shape.proofs.Every.{all_step_at, all_done}

pub loop-scalar-preserved : goal.loop-scalar-preserved
loop-scalar-preserved c = all_step_at IsLawfulScalar c.args.shape.now c.args.shape.now c.loop-scalar.scalar-index Int32 refl c.loop-scalar-test.true c.loop-scalar.invariant (c.if-not-is_lawful_scalar.ensures refl)

pub returns : goal.returns
returns c = λ _. all_done IsLawfulScalar c.args.shape.now c.args.shape.now c.loop-scalar.scalar-index refl c.loop-scalar-test.false c.loop-scalar.invariant
