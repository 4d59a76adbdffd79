use Rattle.std.proofs.Common.{ap, sym, ◌∙◌, ◌∷◌}
use Rattle.cm_meaning.specs.BodySites.{simple_sites, target_sites}
use Rattle.cm_meaning.specs.Sites.{Calls, arguments_sites, expr_sites, site}
use Rattle.scope_walk.proofs.StepLemmas.{one-part, two-parts}
use Rattle.scope_walk.proofs.simple.walk_simple.Goals as goal

pub returns-in_ok-walk_target-in-Assign : goal.returns-in_ok-walk_target-in-Assign
returns-in_ok-walk_target-in-Assign c = two-parts c.args.steps.now c.walk_target.new.steps c.walk_expr.new.steps (λ r. target_sites r c.in-Assign.target) (λ r. expr_sites r c.in-Assign.value) (λ r. simple_sites r c.args.simple.now) c.walk_expr.result
    (λ r. ap (simple_sites r) c.in-Assign.is) c.in_ok-walk_target-in-Assign.ensures c.walk_expr.ensures

pub returns-in-Call : goal.returns-in-Call
returns-in-Call c = one-part c.args.steps.now c.walk_call.new.steps (λ r. site r (Calls c.in-Call.path c.as_slice.result.now) ∷ arguments_sites r c.as_slice.result.now) (λ r. simple_sites r c.args.simple.now) c.walk_call.result
    (λ r. ap (simple_sites r) c.in-Call.is ∙ ap (λ z. site r (Calls c.in-Call.path z) ∷ arguments_sites r z) (sym c.as_slice.ensures)) c.walk_call.ensures

pub returns-in-After : goal.returns-in-After
returns-in-After c = one-part c.args.steps.now c.walk_target-in-After.new.steps (λ r. target_sites r c.in-After.target) (λ r. simple_sites r c.args.simple.now) c.walk_target-in-After.result (λ r. ap (simple_sites r) c.in-After.is)
    c.walk_target-in-After.ensures

pub returns-in-Before : goal.returns-in-Before
returns-in-Before c = one-part c.args.steps.now c.walk_target-in-Before.new.steps (λ r. target_sites r c.in-Before.target) (λ r. simple_sites r c.args.simple.now) c.walk_target-in-Before.result (λ r. ap (simple_sites r) c.in-Before.is)
    c.walk_target-in-Before.ensures
