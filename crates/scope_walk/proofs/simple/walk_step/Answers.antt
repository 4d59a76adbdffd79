use Rattle.std.proofs.Common.{ap}
use Rattle.cm_meaning.specs.BodySites.{step_sites}
use Rattle.scope_walk.proofs.StepLemmas.{no-part}
use Rattle.scope_walk.proofs.simple.walk_step.Goals as goal

pub returns-in-Field : goal.returns-in-Field
returns-in-Field c = no-part c.args.steps.now (λ r. step_sites r c.args.step.now) (λ r. ap (step_sites r) c.in-Field.is)
