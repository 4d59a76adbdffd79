use Rattle.cm_meaning.specs.PatchSites.{end_sites}
use Rattle.cm_meaning.specs.Sites.{type_sites}
use Rattle.declaration_walk.specs.Declares.{end_name_sites}
use Rattle.scope_walk.proofs.StepLemmas.{two-parts}
use Rattle.std.proofs.Common.{ap, flat_map, sym, ◌++◌}
use Rattle.declaration_walk.proofs.members.walk_end.Goals as goal

pub returns : goal.returns
returns c = two-parts c.args.steps.now c.walk_type.new.steps c.walk_end_names.new.steps (λ r. type_sites r c.args.end.now.ty) (λ r. flat_map (end_name_sites r) c.as_slice.result.now) (λ r. end_sites r c.args.end.now) c.walk_end_names.result
    (λ r. ap (λ z. type_sites r c.args.end.now.ty ++ flat_map (end_name_sites r) z) (sym c.as_slice.ensures)) c.in_ok-walk_type.ensures c.walk_end_names.ensures
