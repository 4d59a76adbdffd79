use Rattle.std.proofs.Common.{◌≡◌, take}
use Rattle.wasm_tree.specs.Spelled.{count_of_locals}
use Rattle.wasm_valid.proofs.locals.count_locals.Given as goal

abbrev pub invariant-loop-run : goal.invariant-loop-run
invariant-loop-run l = l.count ≡ count_of_locals (take l.run-index l.runs)
