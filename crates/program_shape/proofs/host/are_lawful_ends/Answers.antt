use Rattle.program_shape.proofs.host.are_lawful_ends.Goals as goal
use Rattle.std.proofs.Common.{refl, All, subst}
use Rattle.std.proofs.lemmas.List.Elements.{recursion_from_All}
use Rattle.cm_base.specs.HostEnds.{IsLawfulEnd, IsLawfulScalar}
use Rattle.program_shape.proofs.Every.{all_step, all_done}

pub loop-end-preserved : goal.loop-end-preserved
loop-end-preserved c =
    let s : All IsLawfulScalar c.end-item.result.shape = subst (All IsLawfulScalar) c.as_slice.ensures (c.if-not-are_lawful_scalars.ensures refl) in
    all_step IsLawfulEnd c.args.ends.now c.args.ends.now c.loop-end.end-index c.end-item.result refl c.loop-end-test.true c.end-item.is c.loop-end.invariant
    (record { scalars = recursion_from_All IsLawfulScalar c.end-item.result.shape s; parameter = c.if-not-is_lawful_range.ensures refl })

pub returns : goal.returns
returns c = λ _. all_done IsLawfulEnd c.args.ends.now c.args.ends.now c.loop-end.end-index refl c.loop-end-test.false c.loop-end.invariant
