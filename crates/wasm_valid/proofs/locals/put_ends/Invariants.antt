use Rattle.std.proofs.Common.{◌≡◌, take}
use Rattle.wasm_tree.specs.Spelled.{count_of_locals}
use Rattle.wasm_valid.specs.Ends.{ends_of}
use Rattle.wasm_valid.proofs.locals.put_ends.Given as goal

abbrev pub invariant-loop-run : goal.invariant-loop-run
invariant-loop-run l = record {
  so_far : l.ends.items ≡ ends_of 0 (take l.run-index l.runs);
  end_is : l.end ≡ count_of_locals (take l.run-index l.runs);
}
