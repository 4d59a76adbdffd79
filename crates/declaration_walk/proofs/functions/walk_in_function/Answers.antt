use Rattle.declaration_walk.proofs.PartLemmas.{in-function}
use Rattle.declaration_walk.proofs.functions.walk_in_function.Goals as goal

pub returns : goal.returns
returns c = in-function c.args.steps.now c.meet.new.self c.walk_result.new.steps c.meet_params.new.self c.walk_typed.new.steps c.walk_block.new.steps c.args.function.now c.as_slice.result.now c.as_slice-2.result.now c.walk_block.result c.as_slice.ensures c.as_slice-2.ensures
    c.in_ok-meet.ensures c.in_ok-walk_result.ensures c.in_ok-meet_params.ensures c.in_ok-walk_typed.ensures c.walk_block.ensures
