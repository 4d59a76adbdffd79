-- A worked example: a loop that writes a byte to the start of memory, again and again.
use Rattle.std.specs.Prelude.{◌≡◌, ℕ, ◌+◌, ◌*◌, ◌<◌, ◌≤◌, List, [], ◌∷◌, ◌++◌, drop, replicate, pos, None}
use Rattle.wasm_tree.specs.declared.module.ValType.TheVariants.{I32}
use Rattle.wasm_tree.specs.declared.op.StoreOp.TheVariants as store
use Rattle.wasm_tree.specs.declared.op.CompareOp.TheVariants as compare
use Rattle.wasm_tree.specs.declared.op.BinaryOp.TheVariants as binary
use Rattle.wasm_tree.specs.declared.instr.Instr.TheVariants as instr
use Rattle.wasm_tree.specs.Reduce.{Seq, Nil, Plain, InLoop, Func, State, Done, Out, at, exec}
use Rattle.wasm_steps.specs.Steps.{join}

-- local 0 is the address of the byte, local 1 how many bytes there are, local 2 what is written
abbrev pub fill_byte : Seq
fill_byte = Plain (instr.LocalGet 0) (Plain (instr.LocalGet 2) (Plain (instr.Store store.I32Low8 record { align = 0; offset = 0 }) Nil))

-- the next address
abbrev pub fill_next : Seq
fill_next = Plain (instr.LocalGet 0) (Plain (instr.I32Const (pos 1)) (Plain (instr.Binary I32 binary.Add) (Plain (instr.LocalTee 0) Nil)))

-- whether it is below the number of bytes, and if so the loop again
abbrev pub fill_again : Seq
fill_again = Plain (instr.LocalGet 1) (Plain (instr.Compare I32 compare.LessUnsigned) (Plain (instr.BrIf 0) Nil))

abbrev pub fill : Seq
fill = InLoop None (join fill_byte (join fill_next fill_again)) Nil

-- the state with the first bytes written
abbrev pub filled : List ℕ → List ℕ → ℕ → ℕ → ℕ → State
filled globals memory count value done = record { values = []; locals = done ∷ count ∷ value ∷ []; globals = globals; memory = replicate done value ++ drop done memory }

-- With one to 2 ^ 32 - 1 bytes to write a call of the loop takes ten reductions a turn, one more where it
-- isn't taken again, and one for the function's end; and with fewer it is out.
pub record FillRuns (funcs : List Func) (globals memory : List ℕ) (count value m : ℕ) : Type 0 where
  pub ends : 10 * count + 1 < m → exec funcs m (at fill (filled globals memory count value 0) [] []) ≡ Done globals (replicate count value ++ drop count memory)
  pub spends : m ≤ 10 * count + 1 → exec funcs m (at fill (filled globals memory count value 0) [] []) ≡ Out
