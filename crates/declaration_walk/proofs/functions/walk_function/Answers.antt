use Rattle.declaration_walk.proofs.PartLemmas.{function-part}
use Rattle.declaration_walk.proofs.functions.walk_function.Goals as goal

pub returns : goal.returns
returns c = function-part c.args.steps.now c.enter_text.new.self c.walk_function_scope.new.steps c.leave_text.new.self c.args.function.now c.leave_text.result c.in_ok-enter_text.ensures c.in_ok-walk_function_scope.ensures c.leave_text.ensures
