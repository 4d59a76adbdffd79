use Rattle.std.proofs.Common.{◌≡◌, vec_len, []}
use Rattle.latency_fill.specs.Edges.{AreSources}
use Rattle.latency_fill.proofs.arrivals.empty_lists.Given as goal

abbrev pub invariant-loop : goal.invariant-loop
invariant-loop l = (vec_len l.lists ≡ l.counter) × AreSources [] l.counter l.lists.items
