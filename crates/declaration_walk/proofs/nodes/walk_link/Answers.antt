use Rattle.cm_meaning.specs.PatchSites.{point_sites}
use Rattle.cm_meaning.specs.Sites.{optional_sites}
use Rattle.scope_walk.proofs.ScopeLemmas.{then-part}
use Rattle.std.proofs.Common.{◌++◌}
use Rattle.declaration_walk.proofs.nodes.walk_link.Goals as goal

pub returns : goal.returns
returns c = then-part c.args.steps.now c.walk_point.new.steps c.walk_point-2.new.steps (λ r. point_sites r c.args.link.now.from) (λ r. optional_sites r c.args.link.now.delay ++ point_sites r c.args.link.now.to) c.walk_point-2.result c.in_ok-walk_point.ensures
    (then-part c.walk_point.new.steps c.walk_optional.new.steps c.walk_point-2.new.steps (λ r. optional_sites r c.args.link.now.delay) (λ r. point_sites r c.args.link.now.to) c.walk_point-2.result c.in_ok-walk_optional.ensures c.walk_point-2.ensures)
