use Rattle.std.proofs.Common.{ap, sym, ◌∷◌, flat_map}
use Rattle.cm_meaning.specs.BodySites.{step_sites, target_sites}
use Rattle.cm_meaning.specs.Sites.{Assigns, site}
use Rattle.scope_walk.proofs.StepLemmas.{meet-then}
use Rattle.scope_walk.proofs.simple.walk_target.Goals as goal

pub returns : goal.returns
returns c = meet-then c.args.steps.now c.meet.new.self c.walk_steps.new.steps (Assigns c.args.target.now.name) (λ r. flat_map (step_sites r) c.as_slice.result.now) (λ r. target_sites r c.args.target.now) c.walk_steps.result
    (λ r. ap (λ z. site r (Assigns c.args.target.now.name) ∷ flat_map (step_sites r) z) (sym c.as_slice.ensures)) c.in_ok-meet.ensures c.walk_steps.ensures
