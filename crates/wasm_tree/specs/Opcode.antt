-- The byte that begins each instruction: Core Specification 1.0, 5.4, "Instructions".
use Rattle.std.specs.Prelude.{ℕ, ◌+◌, nat_lt, if◌then◌else◌}
use Rattle.wasm_tree.specs.declared.module.ValType.{ValType}
use Rattle.wasm_tree.specs.declared.module.ValType.TheVariants.{I32, I64}
use Rattle.wasm_tree.specs.declared.op.LoadOp.{LoadOp}
use Rattle.wasm_tree.specs.declared.op.LoadOp.TheVariants as load
use Rattle.wasm_tree.specs.declared.op.StoreOp.{StoreOp}
use Rattle.wasm_tree.specs.declared.op.StoreOp.TheVariants as store
use Rattle.wasm_tree.specs.declared.op.CompareOp.{CompareOp}
use Rattle.wasm_tree.specs.declared.op.CompareOp.TheVariants as compare
use Rattle.wasm_tree.specs.declared.op.UnaryOp.{UnaryOp}
use Rattle.wasm_tree.specs.declared.op.UnaryOp.TheVariants as unary
use Rattle.wasm_tree.specs.declared.op.BinaryOp.{BinaryOp}
use Rattle.wasm_tree.specs.declared.op.BinaryOp.TheVariants as binary
use Rattle.wasm_tree.specs.declared.op.ConvertOp.{ConvertOp}
use Rattle.wasm_tree.specs.declared.op.ConvertOp.TheVariants as convert
use Rattle.wasm_tree.specs.declared.instr.Instr.{Instr}
use Rattle.wasm_tree.specs.declared.instr.Instr.TheVariants as instr

-- the place among the loads in the order of their opcodes
abbrev pub load_place : LoadOp → ℕ
load_place load.I32 = 0
load_place load.I64 = 1
load_place load.I32Signed8 = 2
load_place load.I32Unsigned8 = 3
load_place load.I32Signed16 = 4
load_place load.I32Unsigned16 = 5
load_place load.I64Signed8 = 6
load_place load.I64Unsigned8 = 7
load_place load.I64Signed16 = 8
load_place load.I64Unsigned16 = 9
load_place load.I64Signed32 = 10
load_place load.I64Unsigned32 = 11

-- two loads of whole values, a gap for those of floats, and the narrow loads
abbrev pub load_opcode : LoadOp → ℕ
load_opcode op = if nat_lt (load_place op) 2 then 0x28 + load_place op else 0x2A + load_place op

-- and so for the stores
abbrev pub store_place : StoreOp → ℕ
store_place store.I32 = 0
store_place store.I64 = 1
store_place store.I32Low8 = 2
store_place store.I32Low16 = 3
store_place store.I64Low8 = 4
store_place store.I64Low16 = 5
store_place store.I64Low32 = 6

abbrev pub store_opcode : StoreOp → ℕ
store_opcode op = if nat_lt (store_place op) 2 then 0x36 + store_place op else 0x38 + store_place op

abbrev pub test_opcode : ValType → ℕ
test_opcode I32 = 0x45
test_opcode I64 = 0x50

-- comparisons stand in one order for both types
abbrev pub compare_place : CompareOp → ℕ
compare_place compare.Equal = 0
compare_place compare.NotEqual = 1
compare_place compare.LessSigned = 2
compare_place compare.LessUnsigned = 3
compare_place compare.GreaterSigned = 4
compare_place compare.GreaterUnsigned = 5
compare_place compare.LessEqualSigned = 6
compare_place compare.LessEqualUnsigned = 7
compare_place compare.GreaterEqualSigned = 8
compare_place compare.GreaterEqualUnsigned = 9

abbrev pub compare_opcode : ValType → CompareOp → ℕ
compare_opcode I32 op = 0x46 + compare_place op
compare_opcode I64 op = 0x51 + compare_place op

-- and so do the operators of one number
abbrev pub unary_place : UnaryOp → ℕ
unary_place unary.LeadingZeros = 0
unary_place unary.TrailingZeros = 1
unary_place unary.PopulationCount = 2

abbrev pub unary_opcode : ValType → UnaryOp → ℕ
unary_opcode I32 op = 0x67 + unary_place op
unary_opcode I64 op = 0x79 + unary_place op

-- and of two
abbrev pub binary_place : BinaryOp → ℕ
binary_place binary.Add = 0
binary_place binary.Sub = 1
binary_place binary.Mul = 2
binary_place binary.DivSigned = 3
binary_place binary.DivUnsigned = 4
binary_place binary.RemSigned = 5
binary_place binary.RemUnsigned = 6
binary_place binary.And = 7
binary_place binary.Or = 8
binary_place binary.Xor = 9
binary_place binary.ShiftLeft = 10
binary_place binary.ShiftRightSigned = 11
binary_place binary.ShiftRightUnsigned = 12
binary_place binary.RotateLeft = 13
binary_place binary.RotateRight = 14

abbrev pub binary_opcode : ValType → BinaryOp → ℕ
binary_opcode I32 op = 0x6A + binary_place op
binary_opcode I64 op = 0x7C + binary_place op

abbrev pub convert_opcode : ConvertOp → ℕ
convert_opcode convert.WrapI64 = 0xA7
convert_opcode convert.ExtendI32Signed = 0xAC
convert_opcode convert.ExtendI32Unsigned = 0xAD

-- the byte with which the instruction begins
abbrev pub opcode_of : Instr → ℕ
opcode_of instr.Unreachable = 0x00
opcode_of instr.Nop = 0x01
opcode_of (instr.Block result) = 0x02
opcode_of (instr.Loop result) = 0x03
opcode_of (instr.If result) = 0x04
opcode_of instr.Else = 0x05
opcode_of instr.End = 0x0B
opcode_of (instr.Br label) = 0x0C
opcode_of (instr.BrIf label) = 0x0D
opcode_of (instr.BrTable table) = 0x0E
opcode_of instr.Return = 0x0F
opcode_of (instr.Call function) = 0x10
opcode_of instr.Drop = 0x1A
opcode_of instr.Select = 0x1B
opcode_of (instr.LocalGet local) = 0x20
opcode_of (instr.LocalSet local) = 0x21
opcode_of (instr.LocalTee local) = 0x22
opcode_of (instr.GlobalGet global) = 0x23
opcode_of (instr.GlobalSet global) = 0x24
opcode_of (instr.Load op place) = load_opcode op
opcode_of (instr.Store op place) = store_opcode op
opcode_of instr.MemorySize = 0x3F
opcode_of (instr.I32Const value) = 0x41
opcode_of (instr.I64Const value) = 0x42
opcode_of (instr.Test type) = test_opcode type
opcode_of (instr.Compare type op) = compare_opcode type op
opcode_of (instr.Unary type op) = unary_opcode type op
opcode_of (instr.Binary type op) = binary_opcode type op
opcode_of (instr.Convert op) = convert_opcode op
