-- The shortest spelling of a module: shortest numbers, sections in the order of their ids, none for an empty
-- list, and the custom sections at the end. Core Specification 1.0, chapter 5.
use Rattle.std.specs.Prelude.{ℕ, ◌≡◌, ◌+◌, ◌-◌, ◌/◌, ◌%◌, ◌<◌, ◌≤◌, ◌^◌, Bool, nat_lt, List, [], ◌∷◌, ◌++◌, length, All, Option, Some, None, ℤ, pos, negsuc, if◌then◌else◌, zero, suc}
use Rattle.std.specs.List.{flat_map}
use Rattle.wasm_tree.specs.declared.module.ValType.{ValType}
use Rattle.wasm_tree.specs.declared.module.FuncType.{FuncType}
use Rattle.wasm_tree.specs.declared.module.Limits.{Limits}
use Rattle.wasm_tree.specs.declared.module.ImportKind.{ImportKind}
use Rattle.wasm_tree.specs.declared.module.ImportKind.TheVariants as imported
use Rattle.wasm_tree.specs.declared.module.Import.{Import}
use Rattle.wasm_tree.specs.declared.module.ExportKind.{ExportKind}
use Rattle.wasm_tree.specs.declared.module.ExportKind.TheVariants as exported
use Rattle.wasm_tree.specs.declared.module.ExportEntry.{ExportEntry}
use Rattle.wasm_tree.specs.declared.module.GlobalVar.{GlobalVar}
use Rattle.wasm_tree.specs.declared.module.LocalRun.{LocalRun}
use Rattle.wasm_tree.specs.declared.module.FuncBody.{FuncBody}
use Rattle.wasm_tree.specs.declared.module.Segment.{Segment}
use Rattle.wasm_tree.specs.declared.module.Custom.{Custom}
use Rattle.wasm_tree.specs.declared.module.Module.{Module}
use Rattle.wasm_tree.specs.declared.instr.MemArg.{MemArg}
use Rattle.wasm_tree.specs.declared.instr.LabelTable.{LabelTable}
use Rattle.wasm_tree.specs.declared.instr.Instr.{Instr}
use Rattle.wasm_tree.specs.declared.instr.Instr.TheVariants as instr
use Rattle.wasm_tree.specs.Opcode.{opcode_of}
use Rattle.wasm_tree.specs.Spelled.{type_byte, result_byte, mutable_byte, header, IsConstant, sorted_customs}
use Rattle.wasm_tree.specs.Valid.{IsBodyWithinLimits}

-- ---- values (5.2)

-- seven bits a byte, the lowest first: as few bytes as hold the number, and at most this many before the last
unfoldable pub unsigned_within : ℕ → ℕ → List ℕ
unsigned_within zero n = n ∷ []
unsigned_within (suc more) n = if nat_lt n 128 then n ∷ [] else (n % 128 + 128) ∷ unsigned_within more (n / 128)

-- an unsigned number of 32 bits, in at most five bytes
unfoldable pub unsigned_bytes : ℕ → List ℕ
unsigned_bytes n = unsigned_within 4 n

-- from -64 to 63: the numbers of seven bits
abbrev pub is_seven_bits : ℤ → Bool
is_seven_bits (pos n) = nat_lt n 64
is_seven_bits (negsuc n) = nat_lt n 64

-- the lowest seven bits in two's complement
abbrev pub low_bits : ℤ → ℕ
low_bits (pos n) = n % 128
low_bits (negsuc n) = 127 - n % 128

-- the bits above those
abbrev pub high_bits : ℤ → ℤ
high_bits (pos n) = pos (n / 128)
high_bits (negsuc n) = negsuc (n / 128)

unfoldable pub signed_within : ℕ → ℤ → List ℕ
signed_within zero z = low_bits z ∷ []
signed_within (suc more) z = if is_seven_bits z then low_bits z ∷ [] else (low_bits z + 128) ∷ signed_within more (high_bits z)

-- a signed number of 32 or 64 bits, in at most ten bytes
unfoldable pub signed_bytes : ℤ → List ℕ
signed_bytes z = signed_within 9 z

-- a count, and the elements one after another (5.1.3)
abbrev pub vector_bytes : {A : Type 0} → (A → List ℕ) → List A → List ℕ
vector_bytes part xs = unsigned_bytes (length xs) ++ flat_map part xs

-- a length, and as many bytes
abbrev pub text_bytes : List ℕ → List ℕ
text_bytes text = unsigned_bytes (length text) ++ text

-- ---- types (5.3)

abbrev pub value_type_bytes : ValType → List ℕ
value_type_bytes type = type_byte type ∷ []

abbrev pub function_type_bytes : FuncType → List ℕ
function_type_bytes type = 0x60 ∷ (vector_bytes value_type_bytes type.params ++ vector_bytes value_type_bytes type.results)

abbrev pub bounds_bytes : ℕ → Option ℕ → List ℕ
bounds_bytes least None = 0x00 ∷ unsigned_bytes least
bounds_bytes least (Some most) = 0x01 ∷ (unsigned_bytes least ++ unsigned_bytes most)

abbrev pub memory_bytes : Limits → List ℕ
memory_bytes limits = bounds_bytes limits.min limits.max

-- ---- instructions (5.4)

abbrev pub memory_argument_bytes : MemArg → List ℕ
memory_argument_bytes place = unsigned_bytes place.align ++ unsigned_bytes place.offset

abbrev pub table_bytes : LabelTable → List ℕ
table_bytes table = vector_bytes unsigned_bytes table.labels ++ unsigned_bytes table.other

-- what stands behind the instruction's opcode
abbrev pub immediate_bytes : Instr → List ℕ
immediate_bytes (instr.Block result) = result_byte result ∷ []
immediate_bytes (instr.Loop result) = result_byte result ∷ []
immediate_bytes (instr.If result) = result_byte result ∷ []
immediate_bytes (instr.Br label) = unsigned_bytes label
immediate_bytes (instr.BrIf label) = unsigned_bytes label
immediate_bytes (instr.BrTable table) = table_bytes table
immediate_bytes (instr.Call function) = unsigned_bytes function
immediate_bytes (instr.LocalGet local) = unsigned_bytes local
immediate_bytes (instr.LocalSet local) = unsigned_bytes local
immediate_bytes (instr.LocalTee local) = unsigned_bytes local
immediate_bytes (instr.GlobalGet global) = unsigned_bytes global
immediate_bytes (instr.GlobalSet global) = unsigned_bytes global
immediate_bytes (instr.Load op place) = memory_argument_bytes place
immediate_bytes (instr.Store op place) = memory_argument_bytes place
immediate_bytes instr.MemorySize = 0x00 ∷ []
immediate_bytes (instr.I32Const value) = signed_bytes value
immediate_bytes (instr.I64Const value) = signed_bytes value
immediate_bytes _ = []

abbrev pub instruction_bytes : Instr → List ℕ
instruction_bytes i = opcode_of i ∷ immediate_bytes i

-- ---- modules (5.5)

abbrev pub import_kind_bytes : ImportKind → List ℕ
import_kind_bytes (imported.Function type) = 0x00 ∷ unsigned_bytes type
import_kind_bytes (imported.Memory limits) = 0x02 ∷ memory_bytes limits

abbrev pub import_bytes : Import → List ℕ
import_bytes import = text_bytes import.«module» ++ (text_bytes import.name ++ import_kind_bytes import.kind)

abbrev pub export_kind_bytes : ExportKind → List ℕ
export_kind_bytes (exported.Function function) = 0x00 ∷ unsigned_bytes function
export_kind_bytes (exported.Memory memory) = 0x02 ∷ unsigned_bytes memory

abbrev pub export_bytes : ExportEntry → List ℕ
export_bytes entry = text_bytes entry.name ++ export_kind_bytes entry.kind

abbrev pub global_bytes : GlobalVar → List ℕ
global_bytes global = type_byte global.ty ∷ mutable_byte global.mutable ∷ (instruction_bytes global.value ++ 0x0B ∷ [])

abbrev pub locals_bytes : LocalRun → List ℕ
locals_bytes run = unsigned_bytes run.count ++ type_byte run.ty ∷ []

-- a body without its size
abbrev pub code_bytes : FuncBody → List ℕ
code_bytes body = vector_bytes locals_bytes body.locals ++ flat_map instruction_bytes body.code

abbrev pub body_bytes : FuncBody → List ℕ
body_bytes body = text_bytes (code_bytes body)

abbrev pub segment_bytes : Segment → List ℕ
segment_bytes segment = unsigned_bytes segment.memory ++ 0x41 ∷ (signed_bytes segment.offset ++ 0x0B ∷ text_bytes segment.bytes)

-- a section of this id that lists these, or none where there is nothing to list
abbrev pub section_bytes : {A : Type 0} → ℕ → (A → List ℕ) → List A → List ℕ
section_bytes id part [] = []
section_bytes id part (x ∷ xs) = id ∷ text_bytes (vector_bytes part (x ∷ xs))

-- a custom section without its id and size
abbrev pub custom_contents : Custom → List ℕ
custom_contents custom = text_bytes custom.name ++ custom.bytes

abbrev pub custom_bytes : Custom → List ℕ
custom_bytes custom = 0x00 ∷ text_bytes (custom_contents custom)

unfoldable pub spelling : Module → List ℕ
spelling m =
    header
    ++ section_bytes 1 function_type_bytes m.types
    ++ section_bytes 2 import_bytes m.imports
    ++ section_bytes 3 unsigned_bytes m.functions
    ++ section_bytes 5 memory_bytes m.memory
    ++ section_bytes 6 global_bytes m.globals
    ++ section_bytes 7 export_bytes m.exports
    ++ section_bytes 10 body_bytes m.codes
    ++ section_bytes 11 segment_bytes m.segments
    ++ flat_map custom_bytes m.customs

-- the contents of the sections other than custom ones are below 2 ^ 32 bytes, as their size is a number of 32 bits
pub record ListsFit (m : Module) : Type 0 where
  pub types : length (vector_bytes function_type_bytes m.types) < 2 ^ 32
  pub imports : length (vector_bytes import_bytes m.imports) < 2 ^ 32
  pub functions : length (vector_bytes unsigned_bytes m.functions) < 2 ^ 32
  pub memory : length (vector_bytes memory_bytes m.memory) < 2 ^ 32
  pub globals : length (vector_bytes global_bytes m.globals) < 2 ^ 32
  pub exports : length (vector_bytes export_bytes m.exports) < 2 ^ 32
  pub codes : length (vector_bytes body_bytes m.codes) < 2 ^ 32
  pub segments : length (vector_bytes segment_bytes m.segments) < 2 ^ 32

-- what has a spelling: each section's size is a number of 32 bits, and what the format asks of the parts holds
pub record IsWritable (m : Module) : Type 0 where
  pub lists : ListsFit m
  pub customs : All (λ custom. length (custom_contents custom) < 2 ^ 32) m.customs
  pub constant : All (λ global. IsConstant global.value) m.globals
  pub formed : All IsBodyWithinLimits m.codes
  pub sorted : m.customs ≡ sorted_customs m.customs
  pub bodies : length m.functions ≡ length m.codes
