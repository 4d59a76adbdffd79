-- Small bodies that have types, and one that has none.
use Rattle.std.specs.Prelude.{List, [], ◌∷◌, Some, pos}
use Rattle.wasm_tree.specs.declared.module.ValType.{ValType}
use Rattle.wasm_tree.specs.declared.module.ValType.TheVariants.{I32}
use Rattle.wasm_tree.specs.declared.instr.Instr.{Instr}
use Rattle.wasm_tree.specs.declared.instr.Instr.TheVariants as instr
use Rattle.wasm_tree.specs.declared.op.BinaryOp.TheVariants as binary
use Rattle.wasm_tree.specs.Reduce.{tree_of}
use Rattle.wasm_tree.specs.Typed.{Context, Typed}

-- a function with no locals, globals or results
abbrev pub bare : Context
bare = record { functions = []; locals = []; globals = []; results = [] }

-- the code takes operands of these types to those
abbrev pub HasType : List Instr → List ValType → List ValType → Type 0
HasType code before after = Typed bare ([] ∷ []) (tree_of code) before after

-- two numbers are added and the sum is dropped
abbrev pub sum_code : List Instr
sum_code = instr.I32Const (pos 1) ∷ instr.I32Const (pos 2) ∷ instr.Binary I32 binary.Add ∷ instr.Drop ∷ instr.End ∷ []

-- a number leaves an `if` whose arms give one
abbrev pub choice_code : List Instr
choice_code =
    instr.I32Const (pos 0) ∷ instr.If (Some I32) ∷ instr.I32Const (pos 1) ∷ instr.Else ∷ instr.I32Const (pos 2) ∷ instr.End ∷ instr.Drop ∷ instr.End ∷ []

-- an addition alone
abbrev pub add_code : List Instr
add_code = instr.Binary I32 binary.Add ∷ instr.End ∷ []
