use Rattle.std.proofs.Common.{ap}
use Rattle.cm_meaning.specs.BodySites.{next_sites}
use Rattle.scope_walk.proofs.StepLemmas.{no-part}
use Rattle.scope_walk.proofs.stmts.walk_next.Goals as goal

pub returns-in-None : goal.returns-in-None
returns-in-None c = no-part c.args.steps.now (λ r. next_sites r c.args.next.now) (λ r. ap (next_sites r) c.in-None.is)
