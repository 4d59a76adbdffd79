use Rattle.std.proofs.Common.{ap}
use Rattle.cm_meaning.specs.Sites.{optional_sites}
use Rattle.scope_walk.proofs.StepLemmas.{no-part}
use Rattle.scope_walk.proofs.exprs.walk_optional.Goals as goal

pub returns-in-None : goal.returns-in-None
returns-in-None c = no-part c.args.steps.now (λ r. optional_sites r c.args.tree.now) (λ r. ap (optional_sites r) c.in-None.is)
