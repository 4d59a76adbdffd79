use Rattle.std.proofs.Common.{◌≡◌, ◌++◌, take, length, reverse}
use Rattle.graph_flat.proofs.leaves.push_reversed.Given as goal

abbrev pub invariant-loop-step : goal.invariant-loop-step
invariant-loop-step g l = record {
  count : l.count ≡ length l.more;
  built : l.stack.items ≡ l.initial.stack.items ++ take l.step (reverse l.more);
}
