use Rattle.std.proofs.Common.{refl}
use Rattle.commands.proofs.PatchLemmas.{named_refusal}
use Rattle.commands.proofs.patch.meaning.Goals as goal

pub returns-in-Err-clause-stopped : goal.returns-in-Err-clause-stopped
returns-in-Err-clause-stopped c = named_refusal c.args.texts.now c.in-Err.fail c.from.result _ c.about.result c.from.ensures refl c.about.ensures c.in-Err.ensures.refused
