use Rattle.name_scopes.proofs.StackLemmas.{stacked-enter, visible-enter}
use Rattle.name_scopes.proofs.table.Table.enter.Goals as goal

pub returns-clause-ok : goal.returns-clause-ok
returns-clause-ok c = visible-enter c.self.inside.stacks.items c.self.inside.log c.push.new.self c.args.self.now c.self.view_is c.in_ok-push.ensures.ok

pub invariant_of-self-2 : goal.invariant_of-self-2
invariant_of-self-2 c = stacked-enter c.self.inside.stacks.items c.self.inside.log c.push.new.self c.self.invariant c.in_ok-push.ensures.ok
