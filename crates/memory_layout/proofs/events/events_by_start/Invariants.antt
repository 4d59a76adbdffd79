use Rattle.std.proofs.Common.{◌≡◌, vec_len, take}
use Rattle.memory_layout.specs.Events.{AreEvents}
use Rattle.memory_layout.proofs.events.events_by_start.Given as goal

abbrev pub invariant-loop-chain : goal.invariant-loop-chain
invariant-loop-chain l = (vec_len l.lists ≡ l.count) × AreEvents (take l.chain-index l.chains) l.count l.lists.items
