use Rattle.cm_meaning.specs.PatchSites.{handler_sites, in_handler}
use Rattle.cm_meaning.specs.Scopes.{parameter, scoped}
use Rattle.cm_meaning.specs.Sites.{Handles}
use Rattle.scope_walk.proofs.StepLemmas.{meet-then}
use Rattle.std.proofs.Common.{[], refl, ◌∷◌}
use Rattle.declaration_walk.proofs.functions.walk_handler.Goals as goal

pub returns : goal.returns
returns c = meet-then c.args.steps.now c.meet.new.self c.walk_handler_scope.new.steps (Handles c.args.input.now) (λ r. in_handler (scoped r (parameter r.home c.args.param.now ∷ [])) c.args.param.now c.args.body.now) (λ r. handler_sites r c.args.input.now c.args.param.now c.args.body.now) c.walk_handler_scope.result
    (λ r. refl) c.in_ok-meet.ensures c.walk_handler_scope.ensures
