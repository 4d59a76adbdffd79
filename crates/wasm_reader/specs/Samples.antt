-- An instruction for each opcode of the subset, by which the reader finds what a byte begins.
use Rattle.std.specs.Prelude.{ℕ, ◌==◌, List, [], ◌∷◌, ◌++◌, map, find, Option, None, pos}
use Rattle.wasm_tree.specs.declared.module.ValType.{ValType}
use Rattle.wasm_tree.specs.declared.module.ValType.TheVariants.{I32, I64}
use Rattle.wasm_tree.specs.declared.op.LoadOp.{LoadOp}
use Rattle.wasm_tree.specs.declared.op.LoadOp.TheVariants as load
use Rattle.wasm_tree.specs.declared.op.StoreOp.{StoreOp}
use Rattle.wasm_tree.specs.declared.op.StoreOp.TheVariants as store
use Rattle.wasm_tree.specs.declared.op.CompareOp.{CompareOp}
use Rattle.wasm_tree.specs.declared.op.CompareOp.TheVariants as compare
use Rattle.wasm_tree.specs.declared.op.UnaryOp.{UnaryOp}
use Rattle.wasm_tree.specs.declared.op.UnaryOp.TheVariants as unary
use Rattle.wasm_tree.specs.declared.op.BinaryOp.{BinaryOp}
use Rattle.wasm_tree.specs.declared.op.BinaryOp.TheVariants as binary
use Rattle.wasm_tree.specs.declared.op.ConvertOp.TheVariants as convert
use Rattle.wasm_tree.specs.declared.instr.MemArg.{MemArg}
use Rattle.wasm_tree.specs.declared.instr.Instr.{Instr}
use Rattle.wasm_tree.specs.declared.instr.Instr.TheVariants as instr
use Rattle.wasm_tree.specs.Opcode.{opcode_of}

abbrev pub loads : List LoadOp
loads =
    load.I32 ∷ load.I64 ∷ load.I32Signed8 ∷ load.I32Unsigned8 ∷ load.I32Signed16 ∷ load.I32Unsigned16
    ∷ load.I64Signed8 ∷ load.I64Unsigned8 ∷ load.I64Signed16 ∷ load.I64Unsigned16 ∷ load.I64Signed32 ∷ load.I64Unsigned32 ∷ []

abbrev pub stores : List StoreOp
stores = store.I32 ∷ store.I64 ∷ store.I32Low8 ∷ store.I32Low16 ∷ store.I64Low8 ∷ store.I64Low16 ∷ store.I64Low32 ∷ []

abbrev pub comparisons : List CompareOp
comparisons =
    compare.Equal ∷ compare.NotEqual ∷ compare.LessSigned ∷ compare.LessUnsigned ∷ compare.GreaterSigned ∷ compare.GreaterUnsigned
    ∷ compare.LessEqualSigned ∷ compare.LessEqualUnsigned ∷ compare.GreaterEqualSigned ∷ compare.GreaterEqualUnsigned ∷ []

abbrev pub unary_operators : List UnaryOp
unary_operators = unary.LeadingZeros ∷ unary.TrailingZeros ∷ unary.PopulationCount ∷ []

abbrev pub binary_operators : List BinaryOp
binary_operators =
    binary.Add ∷ binary.Sub ∷ binary.Mul ∷ binary.DivSigned ∷ binary.DivUnsigned ∷ binary.RemSigned ∷ binary.RemUnsigned
    ∷ binary.And ∷ binary.Or ∷ binary.Xor ∷ binary.ShiftLeft ∷ binary.ShiftRightSigned ∷ binary.ShiftRightUnsigned ∷ binary.RotateLeft ∷ binary.RotateRight ∷ []

-- the instructions of numbers of one type
abbrev pub numeric : ValType → List Instr
numeric type = instr.Test type ∷ (map (instr.Compare type) comparisons ++ map (instr.Unary type) unary_operators ++ map (instr.Binary type) binary_operators)

abbrev pub no_place : MemArg
no_place = record { align = 0; offset = 0 }

-- one instruction for each opcode, with a 0 for each immediate
unfoldable pub samples : List Instr
samples =
    (instr.Unreachable ∷ instr.Nop ∷ instr.Block None ∷ instr.Loop None ∷ instr.If None ∷ instr.Else ∷ instr.End
    ∷ instr.Br 0 ∷ instr.BrIf 0 ∷ instr.BrTable (record { labels = []; other = 0 }) ∷ instr.Return ∷ instr.Call 0 ∷ instr.Drop ∷ instr.Select
    ∷ instr.LocalGet 0 ∷ instr.LocalSet 0 ∷ instr.LocalTee 0 ∷ instr.GlobalGet 0 ∷ instr.GlobalSet 0
    ∷ instr.MemorySize ∷ instr.I32Const (pos 0) ∷ instr.I64Const (pos 0)
    ∷ instr.Convert convert.WrapI64 ∷ instr.Convert convert.ExtendI32Signed ∷ instr.Convert convert.ExtendI32Unsigned ∷ [])
    ++ map (λ op. instr.Load op no_place) loads ++ map (λ op. instr.Store op no_place) stores ++ numeric I32 ++ numeric I64

-- the one that this byte begins
unfoldable pub sample_of : ℕ → Option Instr
sample_of byte = find (λ i. opcode_of i == byte) samples

-- an instruction that is its opcode alone
abbrev pub IsAlone : Instr → Type 0
IsAlone (instr.Block result) = ⊥
IsAlone (instr.Loop result) = ⊥
IsAlone (instr.If result) = ⊥
IsAlone (instr.Br label) = ⊥
IsAlone (instr.BrIf label) = ⊥
IsAlone (instr.BrTable table) = ⊥
IsAlone (instr.Call function) = ⊥
IsAlone (instr.LocalGet local) = ⊥
IsAlone (instr.LocalSet local) = ⊥
IsAlone (instr.LocalTee local) = ⊥
IsAlone (instr.GlobalGet global) = ⊥
IsAlone (instr.GlobalSet global) = ⊥
IsAlone (instr.Load op place) = ⊥
IsAlone (instr.Store op place) = ⊥
IsAlone instr.MemorySize = ⊥
IsAlone (instr.I32Const value) = ⊥
IsAlone (instr.I64Const value) = ⊥
IsAlone _ = Unit {0}
