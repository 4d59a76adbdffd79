use Rattle.std.proofs.Common.{◌≡◌, drop}
use Rattle.std.specs.Prelude.{◌↔◌}
use Rattle.wasm_tree.specs.Spelled.{sorted_customs}
use Rattle.wasm_writer.proofs.CustomLemmas.{Goes}
use Rattle.wasm_writer.proofs.writable.are_sorted.Given as goal

abbrev pub invariant-loop-custom : goal.invariant-loop-custom
invariant-loop-custom l = (l.customs ≡ sorted_customs l.customs) ↔ Goes l.last (drop l.custom-index l.customs)
