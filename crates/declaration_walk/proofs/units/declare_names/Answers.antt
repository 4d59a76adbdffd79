use Rattle.cm_meaning.specs.Scopes.{member_names, param_names}
use Rattle.declaration_walk.proofs.NameLemmas.{more-names}
use Rattle.std.proofs.Common.{ap, flat_map, sym, ◌++◌, ◌∙◌}
use Rattle.declaration_walk.proofs.units.declare_names.Goals as goal

pub returns : goal.returns
returns c = more-names c.args.steps.now c.declare_members.new.steps c.declare_params.new.steps (λ h. flat_map (member_names h) c.as_slice.result.now) (λ h. param_names h 0 c.as_slice-2.result.now) (λ h. param_names h 0 c.args.unit.now.params ++ flat_map (member_names h) c.args.unit.now.members) c.declare_params.result
    (λ h. ap (λ z. param_names h 0 z ++ flat_map (member_names h) c.args.unit.now.members) (sym c.as_slice-2.ensures) ∙ ap (λ z. param_names h 0 c.as_slice-2.result.now ++ flat_map (member_names h) z) (sym c.as_slice.ensures))
    c.in_ok-declare_members.ensures c.declare_params.ensures
