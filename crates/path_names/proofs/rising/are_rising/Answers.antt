use Rattle.std.proofs.Common.{arith, refl, sym, None}
use Rattle.path_names.specs.declared.id.Use.{Use}
use Rattle.path_names.proofs.RisingLemmas.{rising-all, rising-read}
use Rattle.path_names.proofs.rising.are_rising.Goals as goal

pub loop-index-preserved : goal.loop-index-preserved
loop-index-preserved c =
    let d : Use = record { place = record { file = 0; line = 0; column = 0 }; id = None } in
    rising-read c.args.uses.now c.loop-index.index d (omega arith) (omega arith) (sym c.if-not-is_before.ensures) c.loop-index.invariant

pub returns : goal.returns
returns c = (λ _. rising-all c.args.uses.now c.loop-index.index (omega arith) c.loop-index.invariant, λ _. refl)
