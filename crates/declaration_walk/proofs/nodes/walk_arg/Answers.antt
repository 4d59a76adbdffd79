use Rattle.declaration_walk.proofs.PartLemmas.{given-part}
use Rattle.declaration_walk.proofs.nodes.walk_arg.Goals as goal

pub returns : goal.returns
returns c = given-part c.args.steps.now c.meet_given.new.self c.walk_given.new.steps c.args.path.now c.args.position c.args.arg.now c.walk_given.result c.in_ok-meet_given.ensures c.walk_given.ensures
