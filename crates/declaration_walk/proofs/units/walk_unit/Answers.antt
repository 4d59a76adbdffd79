use Rattle.declaration_walk.proofs.SpaceLemmas.{unit-part}
use Rattle.scope_walk.specs.Meant.{unit_as}
use Rattle.declaration_walk.proofs.units.walk_unit.Goals as goal

pub returns : goal.returns
returns c = unit-part c.args.steps.now c.enter_unit.new.self c.declare_names.new.steps c.walk_in_unit.new.steps c.leave_unit.new.self (unit_as c.args.kind c.args.unit.now) c.args.unit.now c.leave_unit.result
    c.in_ok-enter_unit.ensures c.in_ok-declare_names.ensures c.in_ok-walk_in_unit.ensures c.leave_unit.ensures
