use Rattle.cm_meaning.specs.PatchSites.{point_sites}
use Rattle.cm_meaning.specs.Sites.{Joins, optional_sites}
use Rattle.scope_walk.proofs.StepLemmas.{meet-then}
use Rattle.std.proofs.Common.{refl}
use Rattle.declaration_walk.proofs.nodes.walk_point.Goals as goal

pub returns : goal.returns
returns c = meet-then c.args.steps.now c.meet.new.self c.walk_optional.new.steps (Joins c.args.point.now) (λ r. optional_sites r c.args.point.now.index) (λ r. point_sites r c.args.point.now) c.walk_optional.result
    (λ r. refl) c.in_ok-meet.ensures c.walk_optional.ensures
