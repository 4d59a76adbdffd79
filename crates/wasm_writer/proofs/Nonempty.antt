-- Each part of a module has a byte at least.
use Rattle.std.proofs.Common.{ℕ, ◌≤◌, List, ◌∷◌, ◌++◌, length, Option, Some, None, arith}
use Rattle.std.proofs.lemmas.List.{length-append}
use Rattle.wasm_tree.specs.declared.module.ValType.{ValType}
use Rattle.wasm_tree.specs.declared.module.FuncType.{FuncType}
use Rattle.wasm_tree.specs.declared.module.Limits.{Limits}
use Rattle.wasm_tree.specs.declared.module.Import.{Import}
use Rattle.wasm_tree.specs.declared.module.ExportEntry.{ExportEntry}
use Rattle.wasm_tree.specs.declared.module.GlobalVar.{GlobalVar}
use Rattle.wasm_tree.specs.declared.module.LocalRun.{LocalRun}
use Rattle.wasm_tree.specs.declared.module.FuncBody.{FuncBody}
use Rattle.wasm_tree.specs.declared.module.Segment.{Segment}
use Rattle.wasm_tree.specs.declared.instr.Instr.{Instr}
use Rattle.wasm_tree.specs.Opcode.{opcode_of}
use Rattle.wasm_writer.specs.Spelling.{unsigned_bytes, value_type_bytes, function_type_bytes, bounds_bytes, memory_bytes, instruction_bytes, import_bytes, import_kind_bytes, export_bytes, export_kind_bytes, global_bytes, locals_bytes, code_bytes, body_bytes, segment_bytes, text_bytes}
use Rattle.wasm_writer.proofs.Numbers.{unsigned_begins}

-- any bytes after a number
number_first : (n : ℕ) (rest : List ℕ) → 1 ≤ length (unsigned_bytes n ++ rest)
number_first n rest = omega (arith, unsigned_begins n, length-append (unsigned_bytes n) rest)

-- any bytes after a text
text_first : (text rest : List ℕ) → 1 ≤ length (text_bytes text ++ rest)
text_first text rest = omega (arith, unsigned_begins (length text), length-append (unsigned_bytes (length text)) text, length-append (text_bytes text) rest)

byte_first : (byte : ℕ) (rest : List ℕ) → 1 ≤ length (byte ∷ rest)
byte_first byte rest = omega arith

pub index_nonempty : (n : ℕ) → 1 ≤ length (unsigned_bytes n)
index_nonempty n = unsigned_begins n

pub value_type_nonempty : (x : ValType) → 1 ≤ length (value_type_bytes x)
value_type_nonempty x = omega arith

pub function_type_nonempty : (x : FuncType) → 1 ≤ length (function_type_bytes x)
function_type_nonempty x = byte_first 0x60 _

bounds_nonempty : (least : ℕ) (most : Option ℕ) → 1 ≤ length (bounds_bytes least most)
bounds_nonempty least None = byte_first 0x00 _
bounds_nonempty least (Some most) = byte_first 0x01 _

pub memory_nonempty : (x : Limits) → 1 ≤ length (memory_bytes x)
memory_nonempty x = bounds_nonempty x.min x.max

pub import_nonempty : (x : Import) → 1 ≤ length (import_bytes x)
import_nonempty x = text_first x.«module» (text_bytes x.name ++ import_kind_bytes x.kind)

pub export_nonempty : (x : ExportEntry) → 1 ≤ length (export_bytes x)
export_nonempty x = text_first x.name (export_kind_bytes x.kind)

pub global_nonempty : (x : GlobalVar) → 1 ≤ length (global_bytes x)
global_nonempty x = omega arith

pub locals_nonempty : (x : LocalRun) → 1 ≤ length (locals_bytes x)
locals_nonempty x = number_first x.count _

pub body_nonempty : (x : FuncBody) → 1 ≤ length (body_bytes x)
body_nonempty x = number_first (length (code_bytes x)) (code_bytes x)

pub segment_nonempty : (x : Segment) → 1 ≤ length (segment_bytes x)
segment_nonempty x = number_first x.memory _

pub instruction_nonempty : (x : Instr) → 1 ≤ length (instruction_bytes x)
instruction_nonempty x = byte_first (opcode_of x) _
