use Rattle.std.proofs.Common.{arith}
use Rattle.name_scopes.proofs.StackLemmas.{stacked-none, visible-none}
use Rattle.name_scopes.proofs.table.Table.new.Goals as goal

pub invariant_of-result : goal.invariant_of-result
invariant_of-result c = stacked-none c.loop.stacks.items c.new-2.result c.loop.invariant.0 c.new-2.ensures

pub returns : goal.returns
returns c = visible-none c.loop.stacks.items c.new-2.result c.args.names (let i = c.loop.invariant.1 in omega arith) c.new-2.ensures
