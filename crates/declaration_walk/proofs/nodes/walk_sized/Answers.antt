use Rattle.cm_meaning.specs.Sites.{base_sites, expr_sites}
use Rattle.scope_walk.proofs.ScopeLemmas.{then-part}
use Rattle.std.proofs.Common.{flat_map}
use Rattle.declaration_walk.proofs.nodes.walk_sized.Goals as goal

pub returns : goal.returns
returns c = then-part c.args.steps.now c.walk_base.new.steps c.walk_exprs.new.steps (λ r. base_sites r c.args.base.now) (λ r. flat_map (expr_sites r) c.args.sizes.now) c.walk_exprs.result c.in_ok-walk_base.ensures c.walk_exprs.ensures
