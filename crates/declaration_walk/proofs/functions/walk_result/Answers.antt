use Rattle.cm_meaning.specs.PatchSites.{result_sites}
use Rattle.scope_walk.proofs.StepLemmas.{no-part}
use Rattle.std.proofs.Common.{ap}
use Rattle.declaration_walk.proofs.functions.walk_result.Goals as goal

pub returns-in-None : goal.returns-in-None
returns-in-None c = no-part c.args.steps.now (λ r. result_sites r c.args.ty.now) (λ r. ap (result_sites r) c.in-None.is)
