use Rattle.std.proofs.Common.{◌≡◌, ◌≤◌, take}
use Rattle.wasm_tree.specs.Spelled.{count_of_locals, most_locals}
use Rattle.wasm_writer.proofs.writable.has_few_locals.Given as goal

abbrev pub invariant-loop-run : goal.invariant-loop-run
invariant-loop-run l = record {
  counted : l.total ≡ count_of_locals (take l.run-index l.runs);
  few : l.total ≤ most_locals;
}
