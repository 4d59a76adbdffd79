use Rattle.std.proofs.Common.{◌≡◌, length}
use Rattle.graph_flat.proofs.Apart.{Seen}
use Rattle.graph_flat.proofs.sharing.shared_value.Given as goal

abbrev pub invariant-loop-path : goal.invariant-loop-path
invariant-loop-path l = record {
  count : length l.taken.items ≡ length l.program.ends;
  seen : Seen l.program l.paths l.path-index l.taken.items;
}
