use Rattle.cm_meaning.specs.PatchSites.{keys_sites}
use Rattle.declaration_walk.specs.Declares.{end_name_sites}
use Rattle.scope_walk.proofs.StepLemmas.{one-part}
use Rattle.std.proofs.Common.{ap, sym}
use Rattle.declaration_walk.proofs.members.walk_end_name.Goals as goal

pub returns : goal.returns
returns c = one-part c.args.steps.now c.walk_keys.new.steps (λ r. keys_sites r c.as_slice.result.now) (λ r. end_name_sites r c.args.name.now) c.walk_keys.result (λ r. ap (keys_sites r) (sym c.as_slice.ensures)) c.walk_keys.ensures
