use Rattle.scope_walk.proofs.ScopeLemmas.{first-local, first-simple}
use Rattle.scope_walk.proofs.stmts.walk_first.Goals as goal

pub returns-in-Local : goal.returns-in-Local
returns-in-Local c = first-local c.args.steps.now c.walk_local.new.steps c.in-Local.local c.args.start.now c.walk_local.result c.in-Local.is c.walk_local.ensures

pub returns-in-Simple : goal.returns-in-Simple
returns-in-Simple c = first-simple c.args.steps.now c.walk_simple.new.steps c.in-Simple.simple c.args.start.now c.walk_simple.result c.in-Simple.is c.walk_simple.ensures
