use Rattle.cm_meaning.specs.PatchSites.{key_value_sites}
use Rattle.scope_walk.proofs.StepLemmas.{no-part}
use Rattle.std.proofs.Common.{Some, ap}
use Rattle.declaration_walk.proofs.members.walk_written.Goals as goal

pub returns-in-Text : goal.returns-in-Text
returns-in-Text c = no-part c.args.steps.now (λ r. key_value_sites r (Some c.args.value.now)) (λ r. ap (λ z. key_value_sites r (Some z)) c.in-Text.is)
