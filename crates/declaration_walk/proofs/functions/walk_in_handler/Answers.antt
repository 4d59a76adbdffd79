use Rattle.declaration_walk.proofs.PartLemmas.{in-handler}
use Rattle.declaration_walk.proofs.functions.walk_in_handler.Goals as goal

pub returns : goal.returns
returns c = in-handler c.args.steps.now c.meet_param.new.self c.walk_type.new.steps c.walk_block.new.steps c.args.param.now c.args.body.now c.walk_block.result c.in_ok-meet_param.ensures c.in_ok-walk_type.ensures c.walk_block.ensures
