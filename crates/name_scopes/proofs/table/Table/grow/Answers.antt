use Rattle.name_scopes.proofs.StackLemmas.{stacked-grow, visible-grow}
use Rattle.name_scopes.proofs.table.Table.grow.Goals as goal

pub invariant_of-self-2 : goal.invariant_of-self-2
invariant_of-self-2 c = stacked-grow c.self.inside.stacks.items c.push.new.self.items c.self.inside.log c.new.result c.self.invariant c.new.ensures c.in_ok-push.ensures.items

pub returns-clause-ok : goal.returns-clause-ok
returns-clause-ok c = visible-grow c.self.inside.stacks.items c.push.new.self.items c.new.result c.self.inside.log c.args.self.now c.self.view_is c.in_ok-push.ensures.items
