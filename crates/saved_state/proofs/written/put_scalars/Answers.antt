use borrow.Author.Count.{below_more}
use Rattle.std.proofs.Common.{get_or, pos, arith, rules}
use Rattle.std.proofs.lemmas.Grind.{common_steps}
use Rattle.saved_state.specs.Version2.{IsScalar}
use Rattle.saved_state.proofs.Applying.{all_scalars}
use Rattle.saved_state.proofs.written.put_scalars.Goals as goal

pub loop-scalar-preserved : goal.loop-scalar-preserved
loop-scalar-preserved c =
    let here : IsScalar (get_or c.args.scalars.now c.loop-scalar.scalar-index (pos 0)) = search rules in
    (first_of (grind (arith, common_steps), search rules), below_more (λ k. IsScalar (get_or c.args.scalars.now k (pos 0))) c.loop-scalar.scalar-index c.loop-scalar.invariant.1 here)

pub returns-clause-each : goal.returns-clause-each
returns-clause-each c = all_scalars c.args.scalars.now (λ i within. c.loop-scalar.invariant.1 i (omega (arith, within, c.loop-scalar-test.false)))
