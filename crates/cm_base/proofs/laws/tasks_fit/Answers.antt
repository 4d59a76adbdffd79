use Rattle.cm_base.proofs.TaskLemmas.{tasks_fit}
use Rattle.cm_base.proofs.laws.tasks_fit.Goals as goal

pub returns : goal.returns
returns c = tasks_fit
