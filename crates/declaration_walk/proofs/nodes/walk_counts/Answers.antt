use Rattle.cm_meaning.specs.Sites.{optional_sites}
use Rattle.scope_walk.proofs.ScopeLemmas.{then-part}
use Rattle.declaration_walk.proofs.nodes.walk_counts.Goals as goal

pub returns : goal.returns
returns c = then-part c.args.steps.now c.walk_optional.new.steps c.walk_optional-2.new.steps (λ r. optional_sites r c.args.count.now) (λ r. optional_sites r c.args.factor.now) c.walk_optional-2.result c.in_ok-walk_optional.ensures c.walk_optional-2.ensures
