use Rattle.cm_meaning.specs.PatchSites.{param_sites}
use Rattle.scope_walk.proofs.StepLemmas.{no-part}
use Rattle.std.proofs.Common.{ap}
use Rattle.declaration_walk.proofs.units.walk_param.Goals as goal

pub returns-in-Type : goal.returns-in-Type
returns-in-Type c = no-part c.args.steps.now (λ r. param_sites r c.args.param.now) (λ r. ap (param_sites r) c.in-Type.is)
