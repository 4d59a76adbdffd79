use Rattle.std.proofs.Common.{◌≡◌, vec_len}
use Rattle.memory_layout.proofs.leaves.no_handlers.Given as goal

abbrev pub invariant-loop : goal.invariant-loop
invariant-loop l = vec_len l.found ≡ l.counter
