-- Small codes, and what a call of them from outside comes to.
use Rattle.std.specs.Prelude.{◌≡◌, ℕ, ◌+◌, List, [], ◌∷◌, None, ℤ, pos, negsuc}
use Rattle.wasm_tree.specs.declared.module.ValType.TheVariants.{I32}
use Rattle.wasm_tree.specs.declared.instr.Instr.{Instr}
use Rattle.wasm_tree.specs.declared.instr.Instr.TheVariants as instr
use Rattle.wasm_tree.specs.declared.op.BinaryOp.{BinaryOp}
use Rattle.wasm_tree.specs.declared.op.BinaryOp.TheVariants as binary
use Rattle.wasm_tree.specs.declared.op.LoadOp.TheVariants as load
use Rattle.wasm_tree.specs.declared.op.StoreOp.TheVariants as store
use Rattle.wasm_tree.specs.Reduce.{Nil, Plain, Func, Config, Run, Done, Out, at, exec, tree_of}

-- a call of code that starts with these locals, globals and bytes of memory, with at most so many reductions
abbrev pub run_of : List Func → List Instr → List ℕ → List ℕ → List ℕ → ℕ → Run
run_of funcs code locals globals memory steps =
    exec funcs steps (at (tree_of code) (record { values = []; locals = locals; globals = globals; memory = memory }) [] [])

-- the call ends in just so many reductions, with these globals and this memory: with one less it is out
pub record EndsIn (steps : ℕ) (funcs : List Func) (code : List Instr) (locals globals memory globals_after memory_after : List ℕ) : Type 0 where
  pub ends : run_of funcs code locals globals memory steps ≡ Done globals_after memory_after
  pub spends : (fewer : ℕ) → fewer + 1 ≡ steps → run_of funcs code locals globals memory fewer ≡ Out

-- ---- control

-- a branch out of a block passes over the rest of the block
abbrev pub block_code : List Instr
block_code =
    instr.Block None ∷ instr.I32Const (pos 7) ∷ instr.GlobalSet 0 ∷ instr.Br 0 ∷ instr.Unreachable ∷ instr.End ∷ instr.End ∷ []

-- global 0 counts the turns of a loop that counts local 0 down to 0
abbrev pub loop_code : List Instr
loop_code =
    instr.Loop None
    ∷ instr.GlobalGet 0 ∷ instr.I32Const (pos 1) ∷ instr.Binary I32 binary.Add ∷ instr.GlobalSet 0
    ∷ instr.LocalGet 0 ∷ instr.I32Const (pos 1) ∷ instr.Binary I32 binary.Sub ∷ instr.LocalTee 0 ∷ instr.BrIf 0
    ∷ instr.End ∷ instr.End ∷ []

-- a function that gives its parameter and 1
abbrev pub next_function : Func
next_function =
    record { params = 1; results = 1; locals = 0; body = tree_of (instr.LocalGet 0 ∷ instr.I32Const (pos 1) ∷ instr.Binary I32 binary.Add ∷ instr.End ∷ []) }

abbrev pub call_code : List Instr
call_code = instr.I32Const (pos 41) ∷ instr.Call 1 ∷ instr.GlobalSet 0 ∷ instr.End ∷ []

-- a branch by a table of one label: 0 leads out of the inner block, where global 0 is set, and each other
-- number out of the outer one
abbrev pub table_code : ℤ → List Instr
table_code value =
    instr.Block None ∷ instr.Block None ∷ instr.I32Const value ∷ instr.BrTable (record { labels = 0 ∷ []; other = 1 }) ∷ instr.End
    ∷ instr.I32Const (pos 9) ∷ instr.GlobalSet 0 ∷ instr.End ∷ instr.End ∷ []

-- a function with two locals whose two operands stand one below a block and one in it, before two constants and
-- their sum, which a caller with one local, one operand and one below a block waits for
abbrev pub nested_run : Config
nested_run =
    at (Plain (instr.I32Const (pos 1)) (Plain (instr.I64Const (pos 2)) (Plain (instr.Binary I32 binary.Add) Nil)))
    (record { values = 7 ∷ []; locals = 8 ∷ 9 ∷ []; globals = 10 ∷ []; memory = 11 ∷ [] })
    (record { arity = 0; target = Nil; below = 12 ∷ []; rest = Plain (instr.I32Const (pos 3)) Nil } ∷ [])
    (record { arity = 0; rest = Plain (instr.I32Const (pos 4)) Nil; values = 13 ∷ []; locals = 14 ∷ []; labels = record { arity = 0; target = Nil; below = 15 ∷ []; rest = Nil } ∷ [] } ∷ [])

-- ---- operators and memory

-- an operator of two numbers, whose result goes to global 0
abbrev pub binary_code : BinaryOp → ℤ → ℤ → List Instr
binary_code op x y = instr.I32Const x ∷ instr.I32Const y ∷ instr.Binary I32 op ∷ instr.GlobalSet 0 ∷ instr.End ∷ []

-- the least number of 32 bits
abbrev pub least : ℤ
least = negsuc 0x7FFFFFFF

-- the word 81828384 in hexadecimal is stored at address 2, loaded again, and its last byte is loaded as a signed number
abbrev pub memory_code : List Instr
memory_code =
    instr.I32Const (pos 0) ∷ instr.I32Const (negsuc 0x7E7D7C7B) ∷ instr.Store store.I32 (record { align = 0; offset = 2 })
    ∷ instr.I32Const (pos 2) ∷ instr.Load load.I32 (record { align = 0; offset = 0 }) ∷ instr.GlobalSet 0
    ∷ instr.I32Const (pos 5) ∷ instr.Load load.I32Signed8 (record { align = 0; offset = 0 }) ∷ instr.GlobalSet 1
    ∷ instr.End ∷ []

-- a load of four bytes at this address
abbrev pub load_code : ℤ → List Instr
load_code address = instr.I32Const address ∷ instr.Load load.I32 (record { align = 2; offset = 0 }) ∷ instr.GlobalSet 0 ∷ instr.End ∷ []
