use Rattle.cm_meaning.specs.PatchSites.{given_sites}
use Rattle.cm_meaning.specs.Sites.{base_sites, expr_sites}
use Rattle.declaration_walk.proofs.PartLemmas.{given-value}
use Rattle.declaration_walk.specs.Declares.{value_sites}
use Rattle.scope_walk.proofs.StepLemmas.{one-part}
use Rattle.std.proofs.Common.{ap, flat_map, sym, ◌++◌, ◌∙◌}
use Rattle.declaration_walk.proofs.nodes.walk_given.Goals as goal

pub returns-in-Type : goal.returns-in-Type
returns-in-Type c = one-part c.args.steps.now c.walk_sized.new.steps (λ r. base_sites r c.in-Type.base ++ flat_map (expr_sites r) c.as_slice.result.now) (λ r. given_sites r c.args.arg.now) c.walk_sized.result
    (λ r. ap (given_sites r) c.in-Type.is ∙ ap (λ z. base_sites r c.in-Type.base ++ flat_map (expr_sites r) z) (sym c.as_slice.ensures)) c.walk_sized.ensures

pub returns-in-Value : goal.returns-in-Value
returns-in-Value c = one-part c.args.steps.now c.walk_given_value.new.steps (λ r. value_sites r c.in-Value.value) (λ r. given_sites r c.args.arg.now) c.walk_given_value.result
    (λ r. ap (given_sites r) c.in-Value.is ∙ given-value r c.in-Value.value) c.walk_given_value.ensures
