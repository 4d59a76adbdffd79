use Rattle.commands.proofs.StepLemmas.{named_stop}
use Rattle.commands.proofs.state.read_saved.Goals as goal

pub returns-in-Some-clause-stopped : goal.returns-in-Some-clause-stopped
returns-in-Some-clause-stopped g c = rw c.in-Some.is (named_stop _ c.read_parameters.result c.about.result _ _ _ _ c.about.ensures c.read_parameters.ensures.stopped)
