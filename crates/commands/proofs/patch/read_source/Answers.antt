use Rattle.commands.proofs.StepLemmas.{named_stop}
use Rattle.commands.proofs.patch.read_source.Goals as goal

pub returns-clause-stopped : goal.returns-clause-stopped
returns-clause-stopped g c = named_stop _ c.read_file.result c.about.result _ _ _ _ c.about.ensures c.read_file.ensures.stopped
