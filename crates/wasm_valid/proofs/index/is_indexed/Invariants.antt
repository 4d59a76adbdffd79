use Rattle.std.proofs.Common.{◌≡◌, ◌<◌, ◌≤◌, ◌+◌, ℕ, List, Bool, length, take, Some}
use Rattle.std.specs.Prelude.{slice_get}
use Rattle.wasm_tree.specs.declared.instr.Instr.{Instr}
use Rattle.wasm_tree.specs.Control.{IsOpen}
use Rattle.wasm_tree.specs.Numbers.{IsThere}
use Rattle.wasm_valid.specs.Indexed.{counts_of}
use Rattle.wasm_valid.proofs.index.is_indexed.Given as goal

abbrev pub invariant-loop-instr : goal.invariant-loop-instr
invariant-loop-instr l = record {
  counted : (arms : List Bool) → IsOpen (take l.instr-index l.code) arms → length arms ≡ l.held;
  few : l.held ≤ l.instr-index + 1;
  there : (place : ℕ) (i : Instr) (arms : List Bool) → place < l.instr-index → slice_get l.code place ≡ Some i → IsOpen (take place l.code) arms → IsThere (counts_of l.space (length arms)) i;
}
