use Rattle.std.proofs.Common.{take, All}
use Rattle.wasm_tree.specs.Spelled.{IsConstant}
use Rattle.wasm_writer.proofs.writable.are_constant.Given as goal

abbrev pub invariant-loop-global : goal.invariant-loop-global
invariant-loop-global l = All (λ global. IsConstant global.value) (take l.global-index l.globals)
