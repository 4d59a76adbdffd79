use Rattle.advance_lowering.proofs.Lawful.{lawful_orderly}
use Rattle.advance_lowering.proofs.orderly.lawful_mains_are_orderly.Goals as goal

pub returns : goal.returns
returns c = lawful_orderly
