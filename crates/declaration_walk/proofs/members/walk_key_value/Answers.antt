use Rattle.cm_meaning.specs.PatchSites.{key_value_sites}
use Rattle.scope_walk.proofs.StepLemmas.{no-part}
use Rattle.std.proofs.Common.{ap}
use Rattle.declaration_walk.proofs.members.walk_key_value.Goals as goal

pub returns-in-None : goal.returns-in-None
returns-in-None c = no-part c.args.steps.now (λ r. key_value_sites r c.args.value.now) (λ r. ap (key_value_sites r) c.in-None.is)
