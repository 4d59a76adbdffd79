use Rattle.std.proofs.Common.{ap, sym, ◌∙◌, ◌++◌, ◌∷◌, flat_map}
use Rattle.cm_meaning.specs.Sites.{NamesType, base_sites, expr_sites, site, type_sites}
use Rattle.scope_walk.proofs.StepLemmas.{meet-then, two-parts}
use Rattle.scope_walk.proofs.exprs.walk_type.Goals as goal

pub returns-in_ok-walk_base-in-Base : goal.returns-in_ok-walk_base-in-Base
returns-in_ok-walk_base-in-Base c = two-parts c.args.steps.now c.walk_base.new.steps c.walk_exprs.new.steps (λ r. base_sites r c.in-Base.base) (λ r. flat_map (expr_sites r) c.as_slice.result.now) (λ r. type_sites r c.args.tree.now) c.walk_exprs.result
    (λ r. ap (type_sites r) c.in-Base.is ∙ ap (λ z. base_sites r c.in-Base.base ++ flat_map (expr_sites r) z) (sym c.as_slice.ensures)) c.in_ok-walk_base-in-Base.ensures c.walk_exprs.ensures

pub returns-in_ok-meet-in-Named : goal.returns-in_ok-meet-in-Named
returns-in_ok-meet-in-Named c = meet-then c.args.steps.now c.meet.new.self c.walk_exprs-in-Named.new.steps (NamesType c.in-Named.path) (λ r. flat_map (expr_sites r) c.as_slice-in-Named.result.now) (λ r. type_sites r c.args.tree.now) c.walk_exprs-in-Named.result
    (λ r. ap (type_sites r) c.in-Named.is ∙ ap (λ z. site r (NamesType c.in-Named.path) ∷ flat_map (expr_sites r) z) (sym c.as_slice-in-Named.ensures)) c.in_ok-meet-in-Named.ensures c.walk_exprs-in-Named.ensures
