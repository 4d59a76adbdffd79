use Rattle.declaration_walk.proofs.PartLemmas.{in-unit-part}
use Rattle.declaration_walk.proofs.units.walk_in_unit.Goals as goal

pub returns : goal.returns
returns c = in-unit-part c.args.steps.now c.meet_unit.new.self c.walk_params.new.steps c.walk_keys.new.steps c.walk_members.new.steps c.args.unit.now c.as_slice.result.now c.as_slice-2.result.now c.as_slice-3.result.now c.walk_members.result
    c.as_slice.ensures c.as_slice-2.ensures c.as_slice-3.ensures c.in_ok-meet_unit.ensures c.in_ok-walk_params.ensures c.in_ok-walk_keys.ensures c.walk_members.ensures
