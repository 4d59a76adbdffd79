use Rattle.std.proofs.Common.{◌≡◌, length}
use Rattle.name_scopes.proofs.StackLemmas.{AreEmpty}
use Rattle.name_scopes.proofs.table.Table.new.Given as goal

abbrev pub invariant-loop : goal.invariant-loop
invariant-loop l = AreEmpty l.stacks.items × (length l.stacks.items ≡ l.counter)
