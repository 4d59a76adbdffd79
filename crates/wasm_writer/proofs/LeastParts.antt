-- No spelling of a part of a module is shorter than its shortest one.
use Rattle.std.proofs.Common.{ℕ, zero, suc, ◌/◌, ◌≤◌, List, [], ◌∷◌, ◌++◌, length, Option, Some, None, ℤ, ap, arith, inl, inr}
use Rattle.std.specs.List.{flat_map}
use Rattle.std.proofs.lemmas.Bool.{cases_lt}
use Rattle.std.proofs.lemmas.List.{length-append}
use Rattle.wasm_tree.specs.declared.module.ValType.{ValType}
use Rattle.wasm_tree.specs.declared.module.FuncType.{FuncType}
use Rattle.wasm_tree.specs.declared.module.Limits.{Limits}
use Rattle.wasm_tree.specs.declared.module.ImportKind.{ImportKind}
use Rattle.wasm_tree.specs.declared.module.ImportKind.TheVariants as imported
use Rattle.wasm_tree.specs.declared.module.Import.{Import}
use Rattle.wasm_tree.specs.declared.module.ExportKind.{ExportKind}
use Rattle.wasm_tree.specs.declared.module.ExportKind.TheVariants as exported
use Rattle.wasm_tree.specs.declared.module.ExportEntry.{ExportEntry}
use Rattle.wasm_tree.specs.declared.module.GlobalVar.{GlobalVar}
use Rattle.wasm_tree.specs.declared.module.LocalRun.{LocalRun}
use Rattle.wasm_tree.specs.declared.module.FuncBody.{FuncBody}
use Rattle.wasm_tree.specs.declared.module.Segment.{Segment}
use Rattle.wasm_tree.specs.declared.module.Custom.{Custom}
use Rattle.wasm_tree.specs.declared.instr.MemArg.{MemArg}
use Rattle.wasm_tree.specs.declared.instr.Instr.{Instr}
use Rattle.wasm_tree.specs.declared.instr.Instr.TheVariants.{Block, Loop, If, Br, BrIf, BrTable, Call, LocalGet, LocalSet, LocalTee, GlobalGet, GlobalSet, Load, Store, MemorySize, I32Const, I64Const}
use Rattle.wasm_tree.specs.Opcode.{opcode_of}
use Rattle.wasm_tree.specs.Spelled.{Joined, Is, Begins, Each, Index, Signed, Vector, Text, Utf8Text, type_byte, Type_of_value, Type_of_function, Bounds, Memory, MemoryArgument, Immediates, Instruction, Import_kind, Imported, Export_kind, Exported, mutable_byte, Global, Data, Locals, LocalRuns, Expression, Body, Custom_contents}
use Rattle.wasm_writer.specs.Spelling.{unsigned_within, unsigned_bytes, signed_bytes, vector_bytes, text_bytes, value_type_bytes, function_type_bytes, bounds_bytes, memory_bytes, memory_argument_bytes, immediate_bytes, instruction_bytes, import_kind_bytes, import_bytes, export_kind_bytes, export_bytes, global_bytes, locals_bytes, code_bytes, body_bytes, segment_bytes, custom_contents}
use Rattle.wasm_writer.proofs.Numbers.{unsigned_one, unsigned_more, index_shortest, signed_shortest}

-- what P allows has as many bytes at least
pub record Least (P : List ℕ → Type 0) (shortest : List ℕ) : Type 0 where
  pub le : (bytes : List ℕ) → P bytes → length shortest ≤ length bytes

pub joined_least : {P Q : List ℕ → Type 0} {a b : List ℕ} → Least P a → Least Q b → Least (Joined P Q) (a ++ b)
joined_least {P} {Q} {a} {b} p q = record {
  le = λ bytes h.
      omega (arith, p.le h.front h.first, q.le h.back h.second, length-append a b, length-append h.front h.back, ap length h.whole);
}

is_least : (these : List ℕ) → Least (Is these) these
is_least these = record { le = λ bytes h. omega (arith, ap length h) }

pub begins_least : {Q : List ℕ → Type 0} {rest : List ℕ} (byte : ℕ) → Least Q rest → Least (Begins byte Q) (byte ∷ rest)
begins_least {Q} {rest} byte q = joined_least {a = byte ∷ []} (is_least (byte ∷ [])) q

each_least : {A : Type 0} (P : A → List ℕ → Type 0) (part : A → List ℕ) → ((x : A) → Least (P x) (part x)) → (xs : List A) → Least (Each P xs) (flat_map part xs)
each_least P part h [] = is_least []
each_least P part h (x ∷ xs) = joined_least {P = P x} {Q = Each P xs} (h x) (each_least P part h xs)

pub index_least : (n : ℕ) → Least (Index n) (unsigned_bytes n)
index_least n = record { le = index_shortest n }

signed_least : (bits : ℕ) (z : ℤ) → Least (Signed bits z) (signed_bytes z)
signed_least bits z = record { le = signed_shortest bits z }

pub vector_least : {A : Type 0} (P : A → List ℕ → Type 0) (part : A → List ℕ) → ((x : A) → Least (P x) (part x)) → (xs : List A) → Least (Vector P xs) (vector_bytes part xs)
vector_least P part h xs = joined_least {P = Index (length xs)} {Q = Each P xs} (index_least (length xs)) (each_least P part h xs)

-- ---- texts and what is behind its size

-- a smaller number takes no more bytes
unsigned_mono : (k m n : ℕ) → m ≤ n → length (unsigned_within k m) ≤ length (unsigned_within k n)
unsigned_mono zero m n le = unfold unsigned_within in (omega arith)
unsigned_mono (suc k) m n le =
    elim (cases_lt n 128) [
      | inl small ↦ rw (unsigned_one (suc k) n small, unsigned_one (suc k) m (omega arith)) (omega arith)
      | inr large ↦
          elim (cases_lt m 128) [
            | inl small ↦ rw (unsigned_one (suc k) m small, unsigned_more k n large) (omega arith)
            | inr larger ↦ let less = unsigned_mono k (m / 128) (n / 128) (omega arith) in rw (unsigned_more k m larger, unsigned_more k n large) (omega (arith, less))
          ]
    ]

bytes_mono : (m n : ℕ) → m ≤ n → length (unsigned_bytes m) ≤ length (unsigned_bytes n)
unfolding unsigned_bytes
bytes_mono m n le = unsigned_mono 4 m n le

-- a text that is no longer
pub text_least : (shorter text : List ℕ) → length shorter ≤ length text → Least (Text text) (text_bytes shorter)
text_least shorter text le = record {
  le = λ bytes h.
      omega (arith, index_shortest (length text) h.front h.first, bytes_mono (length shorter) (length text) le, ap length h.second, ap length h.whole, length-append h.front h.back, length-append (unsigned_bytes (length shorter)) shorter, le);
}

name_least : (name : List ℕ) → Least (Utf8Text name) (text_bytes name)
name_least name = let text = text_least name name (omega arith) in record { le = λ bytes h. text.le bytes h.spelled }

-- ---- types

value_type_least : (type : ValType) → Least (Type_of_value type) (value_type_bytes type)
value_type_least type = is_least (type_byte type ∷ [])

pub function_type_least : (type : FuncType) → Least (Type_of_function type) (function_type_bytes type)
function_type_least type = begins_least 0x60 (joined_least (vector_least Type_of_value value_type_bytes value_type_least type.params) (vector_least Type_of_value value_type_bytes value_type_least type.results))

bounds_least : (least : ℕ) (most : Option ℕ) → Least (Bounds least most) (bounds_bytes least most)
bounds_least least None = begins_least 0x00 (index_least least)
bounds_least least (Some most) = begins_least 0x01 (joined_least (index_least least) (index_least most))

pub memory_least : (limits : Limits) → Least (Memory limits) (memory_bytes limits)
memory_least limits = bounds_least limits.min limits.max

-- ---- instructions

memory_argument_least : (place : MemArg) → Least (MemoryArgument place) (memory_argument_bytes place)
memory_argument_least place = joined_least (index_least place.align) (index_least place.offset)

immediates_least : (i : Instr) → Least (Immediates i) (immediate_bytes i)
immediates_least (Block result) = is_least _
immediates_least (Loop result) = is_least _
immediates_least (If result) = is_least _
immediates_least (Br label) = index_least label
immediates_least (BrIf label) = index_least label
immediates_least (BrTable table) = joined_least (vector_least Index unsigned_bytes index_least table.labels) (index_least table.other)
immediates_least (Call function) = index_least function
immediates_least (LocalGet local) = index_least local
immediates_least (LocalSet local) = index_least local
immediates_least (LocalTee local) = index_least local
immediates_least (GlobalGet global) = index_least global
immediates_least (GlobalSet global) = index_least global
immediates_least (Load op place) = memory_argument_least place
immediates_least (Store op place) = memory_argument_least place
immediates_least MemorySize = is_least _
immediates_least (I32Const value) = signed_least 32 value
immediates_least (I64Const value) = signed_least 64 value
immediates_least _ = is_least []

instruction_least : (i : Instr) → Least (Instruction i) (instruction_bytes i)
instruction_least i = begins_least (opcode_of i) (immediates_least i)

-- ---- entries

import_kind_least : (kind : ImportKind) → Least (Import_kind kind) (import_kind_bytes kind)
import_kind_least (imported.Function type) = begins_least 0x00 (index_least type)
import_kind_least (imported.Memory limits) = begins_least 0x02 (memory_least limits)

pub import_least : (import : Import) → Least (Imported import) (import_bytes import)
import_least import = joined_least (name_least import.«module») (joined_least (name_least import.name) (import_kind_least import.kind))

export_kind_least : (kind : ExportKind) → Least (Export_kind kind) (export_kind_bytes kind)
export_kind_least (exported.Function function) = begins_least 0x00 (index_least function)
export_kind_least (exported.Memory memory) = begins_least 0x02 (index_least memory)

pub export_least : (entry : ExportEntry) → Least (Exported entry) (export_bytes entry)
export_least entry = joined_least (name_least entry.name) (export_kind_least entry.kind)

pub global_least : (global : GlobalVar) → Least (Global global) (global_bytes global)
global_least global =
    let parts = joined_least (value_type_least global.ty) (begins_least (mutable_byte global.mutable) (joined_least (instruction_least global.value) (is_least (0x0B ∷ [])))) in
    record { le = λ bytes h. parts.le bytes h.spelled }

locals_least : (run : LocalRun) → Least (Locals run) (locals_bytes run)
locals_least run = joined_least (index_least run.count) (value_type_least run.ty)

local_runs_least : (runs : List LocalRun) → Least (LocalRuns runs) (vector_bytes locals_bytes runs)
local_runs_least runs = let vector = vector_least Locals locals_bytes locals_least runs in record { le = λ bytes h. vector.le bytes h.spelled }

expression_least : (code : List Instr) → Least (Expression code) (flat_map instruction_bytes code)
expression_least code = let each = each_least Instruction instruction_bytes instruction_least code in record { le = λ bytes h. each.le bytes h.spelled }

pub body_least : (body : FuncBody) → Least (Body body) (body_bytes body)
body_least body =
    let contents = joined_least (local_runs_least body.locals) (expression_least body.code) in
    record { le = λ bytes h. (text_least (code_bytes body) h.0 (contents.le h.0 h.2)).le bytes h.1 }

pub segment_least : (segment : Segment) → Least (Data segment) (segment_bytes segment)
segment_least segment =
    joined_least (index_least segment.memory) (begins_least 0x41 (joined_least (signed_least 32 segment.offset) (begins_least 0x0B (text_least segment.bytes segment.bytes (omega arith)))))

pub custom_least : (custom : Custom) → Least (Custom_contents custom) (custom_contents custom)
custom_least custom = joined_least (name_least custom.name) (is_least custom.bytes)
