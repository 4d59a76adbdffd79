use Rattle.std.proofs.Common.{length}
use Rattle.name_scopes.proofs.StackLemmas.{IsLeaving}
use Rattle.name_scopes.proofs.table.Table.leave.Given as goal

abbrev pub invariant-loop-self : goal.invariant-loop-self
invariant-loop-self l = IsLeaving l.self-inside.stacks.items l.self-inside.log (length l.initial.self-inside.stacks.items) l.initial.self-inside.log

abbrev pub decreases-loop-self : goal.decreases-loop-self
decreases-loop-self l = length l.self-inside.log
