-- Which types of operands code takes and leaves: Core Specification 1.0, 3.3, for the subset of docs/MODULE.md.
use Rattle.std.specs.Prelude.{◌≡◌, ◌^◌, ◌≤◌, List, [], ◌∷◌, ◌++◌, reverse, slice_get, Option, Some, None, true}
use Rattle.std.specs.List.{AllByRecursion}
use Rattle.wasm_tree.specs.declared.module.ValType.{ValType}
use Rattle.wasm_tree.specs.declared.module.ValType.TheVariants.{I32, I64}
use Rattle.wasm_tree.specs.declared.module.FuncType.{FuncType}
use Rattle.wasm_tree.specs.declared.module.GlobalVar.{GlobalVar}
use Rattle.wasm_tree.specs.declared.instr.Instr.{Instr}
use Rattle.wasm_tree.specs.declared.instr.Instr.TheVariants as instr
use Rattle.wasm_tree.specs.declared.op.ConvertOp.{ConvertOp}
use Rattle.wasm_tree.specs.declared.op.ConvertOp.TheVariants as convert
use Rattle.wasm_tree.specs.Meaning.{load_type, load_size, store_type, store_size}
use Rattle.wasm_tree.specs.Reduce.{Seq, Nil, Plain, InBlock, InLoop, InIf}

-- Lists of operand types have the last operand first.

-- what the instructions of a function may name: functions by number, the imported one first, the
-- function's locals, the globals, and its results
pub record Context : Type 0 where
  pub functions : List FuncType
  pub locals : List ValType
  pub globals : List GlobalVar
  pub results : List ValType

-- the instruction takes these operands and leaves those; what is below stays
pub record Takes (ins outs before after : List ValType) : Type 0 where
  pub below : List ValType
  pub had : before ≡ ins ++ below
  pub has : after ≡ outs ++ below

-- the operands begin with these
pub record Has (ins before : List ValType) : Type 0 where
  pub below : List ValType
  pub had : before ≡ ins ++ below

abbrev pub result_types : Option ValType → List ValType
result_types None = []
result_types (Some type) = type ∷ []

-- how the conversions map types
abbrev pub convert_from : ConvertOp → ValType
convert_from convert.WrapI64 = I64
convert_from convert.ExtendI32Signed = I32
convert_from convert.ExtendI32Unsigned = I32

abbrev pub convert_to : ConvertOp → ValType
convert_to convert.WrapI64 = I32
convert_to convert.ExtendI32Signed = I64
convert_to convert.ExtendI32Unsigned = I64

-- an instruction other than a block, loop or `if`: with these types of labels, innermost first, it may
-- stand after operands of the types `before` and leave those of `after`
abbrev pub Applies : Context → List (List ValType) → Instr → List ValType → List ValType → Type 0
-- nothing comes after these four, so what follows may take any operands
Applies c labels instr.Unreachable before after = Unit {0}
Applies c labels (instr.Br label) before after = (types : List ValType) × (slice_get labels label ≡ Some types) × Has types before
Applies c labels (instr.BrTable table) before after =
    (types : List ValType) × (slice_get labels table.other ≡ Some types) × AllByRecursion (λ label. slice_get labels label ≡ Some types) table.labels × Has (I32 ∷ types) before
Applies c labels instr.Return before after = Has (reverse c.results) before
Applies c labels (instr.BrIf label) before after = (types : List ValType) × (slice_get labels label ≡ Some types) × Takes (I32 ∷ types) types before after
Applies c labels (instr.Call function) before after =
    (type : FuncType) × (slice_get c.functions function ≡ Some type) × Takes (reverse type.params) (reverse type.results) before after
Applies c labels instr.Nop before after = Takes [] [] before after
Applies c labels instr.Drop before after = (type : ValType) × Takes (type ∷ []) [] before after
Applies c labels instr.Select before after = (type : ValType) × Takes (I32 ∷ type ∷ type ∷ []) (type ∷ []) before after
Applies c labels (instr.LocalGet local) before after = (type : ValType) × (slice_get c.locals local ≡ Some type) × Takes [] (type ∷ []) before after
Applies c labels (instr.LocalSet local) before after = (type : ValType) × (slice_get c.locals local ≡ Some type) × Takes (type ∷ []) [] before after
Applies c labels (instr.LocalTee local) before after = (type : ValType) × (slice_get c.locals local ≡ Some type) × Takes (type ∷ []) (type ∷ []) before after
Applies c labels (instr.GlobalGet global) before after = (var : GlobalVar) × (slice_get c.globals global ≡ Some var) × Takes [] (var.ty ∷ []) before after
Applies c labels (instr.GlobalSet global) before after =
    (var : GlobalVar) × (slice_get c.globals global ≡ Some var) × (var.mutable ≡ true) × Takes (var.ty ∷ []) [] before after
Applies c labels (instr.Load op place) before after = (2 ^ place.align ≤ load_size op) × Takes (I32 ∷ []) (load_type op ∷ []) before after
Applies c labels (instr.Store op place) before after = (2 ^ place.align ≤ store_size op) × Takes (store_type op ∷ I32 ∷ []) [] before after
Applies c labels instr.MemorySize before after = Takes [] (I32 ∷ []) before after
Applies c labels (instr.I32Const value) before after = Takes [] (I32 ∷ []) before after
Applies c labels (instr.I64Const value) before after = Takes [] (I64 ∷ []) before after
Applies c labels (instr.Test type) before after = Takes (type ∷ []) (I32 ∷ []) before after
Applies c labels (instr.Compare type op) before after = Takes (type ∷ type ∷ []) (I32 ∷ []) before after
Applies c labels (instr.Unary type op) before after = Takes (type ∷ []) (type ∷ []) before after
Applies c labels (instr.Binary type op) before after = Takes (type ∷ type ∷ []) (type ∷ []) before after
Applies c labels (instr.Convert op) before after = Takes (convert_from op ∷ []) (convert_to op ∷ []) before after
-- these open and end sequences, and stand in no tree as plain instructions
Applies c labels (instr.Block result) before after = ⊥
Applies c labels (instr.Loop result) before after = ⊥
Applies c labels (instr.If result) before after = ⊥
Applies c labels instr.Else before after = ⊥
Applies c labels instr.End before after = ⊥

-- a sequence takes operands of the types `before` to those of `after`. A branch to a block takes its
-- result along, and one to a loop nothing
abbrev pub Typed : Context → List (List ValType) → Seq → List ValType → List ValType → Type 0
Typed c labels Nil before after = before ≡ after
Typed c labels (Plain i s) before after = (between : List ValType) × Applies c labels i before between × Typed c labels s between after
Typed c labels (InBlock result body s) before after =
    Typed c (result_types result ∷ labels) body [] (result_types result) × Typed c labels s (result_types result ++ before) after
Typed c labels (InLoop result body s) before after =
    Typed c ([] ∷ labels) body [] (result_types result) × Typed c labels s (result_types result ++ before) after
Typed c labels (InIf result first second s) before after =
    (below : List ValType) × (before ≡ I32 ∷ below) × Typed c (result_types result ∷ labels) first [] (result_types result)
    × Typed c (result_types result ∷ labels) second [] (result_types result) × Typed c labels s (result_types result ++ below) after
