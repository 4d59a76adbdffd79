-- Small parts of modules whose bytes the examples spell.
use Rattle.std.specs.Prelude.{ℕ, List, [], ◌∷◌, ◌++◌, None, pos}
use Rattle.wasm_tree.specs.declared.module.ValType.TheVariants.{I32, I64}
use Rattle.wasm_tree.specs.declared.module.FuncBody.{FuncBody}
use Rattle.wasm_tree.specs.declared.instr.Instr.{Instr}
use Rattle.wasm_tree.specs.declared.instr.Instr.TheVariants as instr
use Rattle.wasm_tree.specs.declared.op.BinaryOp.TheVariants as binary
use Rattle.wasm_tree.specs.declared.module.Module.{Module}
use Rattle.wasm_tree.specs.Spelled.{header}
use Rattle.wasm_tree.specs.Valid.{no_type}

-- a block that holds an `if` with both its arms
abbrev pub nested_code : List Instr
nested_code =
    instr.Block None ∷ instr.I32Const (pos 1) ∷ instr.If None ∷ instr.Nop ∷ instr.Else ∷ instr.Nop ∷ instr.End ∷ instr.End ∷ instr.End ∷ []

-- an `else` in a block
abbrev pub stray_else : List Instr
stray_else = instr.Block None ∷ instr.Else ∷ instr.End ∷ instr.End ∷ []

-- a second `else` in an `if`
abbrev pub second_else : List Instr
second_else = instr.If None ∷ instr.Else ∷ instr.Else ∷ instr.End ∷ instr.End ∷ []

-- a module with nothing in it
abbrev pub empty_module : Module
empty_module =
    record { types = []; imports = []; functions = []; memory = []; globals = []; exports = []; codes = []; segments = []; customs = [] }

-- a module whose one type takes and gives nothing
abbrev pub type_module : Module
type_module = record empty_module { types = no_type ∷ [] }

-- the header, and the section of types: its id, its size, the count of types, and the type
abbrev pub type_bytes : List ℕ
type_bytes = header ++ 0x01 ∷ 0x04 ∷ 0x01 ∷ 0x60 ∷ 0x00 ∷ 0x00 ∷ []

-- the header of a version 2
abbrev pub version_two : List ℕ
version_two = 0x00 ∷ 0x61 ∷ 0x73 ∷ 0x6D ∷ 0x02 ∷ 0x00 ∷ 0x00 ∷ 0x00 ∷ []

-- two locals of 64 bits, and local 0 plus 1
abbrev pub next_body : FuncBody
next_body =
    record { locals = record { count = 2; ty = I64 } ∷ []; code = instr.LocalGet 0 ∷ instr.I32Const (pos 1) ∷ instr.Binary I32 binary.Add ∷ instr.End ∷ [] }

-- a body that declares so many locals in two runs
abbrev pub body_with : ℕ → ℕ → List Instr → FuncBody
body_with first second code = record { locals = record { count = first; ty = I32 } ∷ record { count = second; ty = I64 } ∷ []; code = code }
