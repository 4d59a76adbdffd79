use Rattle.std.proofs.Common.{rules, ◌∙◌, []}
use Rattle.std.proofs.lemmas.List.{get_or_default}
use Rattle.name_scopes.proofs.StackLemmas.{stacked-declare, visible-declare}
use Rattle.name_scopes.proofs.table.Table.declare.Goals as goal

pub invariant_of-self-in-Ok : goal.invariant_of-self-in-Ok
invariant_of-self-in-Ok c = stacked-declare c.self.inside.stacks.items c.self.inside.log c.push.new.self (record { name = c.args.name; declaration = c.args.declaration })
    c.push-2.new.self c.index_mut.result.now c.self.invariant (search rules)
    (c.index_mut.ensures.value ∙ get_or_default c.self.inside.stacks.items c.args.name c.index_mut.result.now [] (search rules)) c.in-Ok.ensures.ok c.in_ok-push.ensures.ok

pub returns-in-Ok-clause-ok : goal.returns-in-Ok-clause-ok
returns-in-Ok-clause-ok c = visible-declare c.self.inside.stacks.items c.push-2.new.self c.self.inside.log c.push.new.self
    (record { name = c.args.name; declaration = c.args.declaration }) c.args.self.now c.self.view_is c.in_ok-push.ensures.ok
