use Rattle.std.proofs.Common.{◌≡◌, vec_len, []}
use Rattle.memory_layout.specs.Events.{AreEvents}
use Rattle.memory_layout.proofs.events.empty_lists.Given as goal

abbrev pub invariant-loop : goal.invariant-loop
invariant-loop l = (vec_len l.lists ≡ l.counter) × AreEvents [] l.counter l.lists.items
