use Rattle.declaration_walk.proofs.PartLemmas.{function-scope}
use Rattle.declaration_walk.proofs.functions.walk_function_scope.Goals as goal

pub returns : goal.returns
returns c = function-scope c.args.steps.now c.enter.new.self c.declare_parameters.new.steps c.walk_in_function.new.steps c.leave.new.self c.args.function.now c.as_slice.result.now c.leave.result c.as_slice.ensures
    c.in_ok-enter.ensures c.in_ok-declare_parameters.ensures c.in_ok-walk_in_function.ensures c.leave.ensures
