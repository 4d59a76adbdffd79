use Rattle.scope_walk.proofs.ScopeLemmas.{start-none, start-some}
use Rattle.scope_walk.proofs.stmts.walk_start.Goals as goal

pub returns-in-None : goal.returns-in-None
returns-in-None c = start-none c.args.steps.now c.args.start.now c.in-None.is

pub returns-in-Some : goal.returns-in-Some
returns-in-Some c = start-some c.args.steps.now c.walk_first.new.steps c.in-Some.first c.args.start.now c.walk_first.result c.in-Some.is c.walk_first.ensures
