-- The entries of sections are spelled as the format says, and their parts are within their bytes.
use Rattle.std.proofs.Common.{ℕ, ◌<◌, ◌≤◌, ◌^◌, List, [], ◌∷◌, ◌++◌, length, refl, arith}
use Rattle.std.specs.List.{flat_map}
use Rattle.std.specs.Str.{IsUtf8}
use Rattle.std.proofs.lemmas.List.{length-append}
use Rattle.wasm_tree.specs.declared.module.Import.{Import}
use Rattle.wasm_tree.specs.declared.module.ExportEntry.{ExportEntry}
use Rattle.wasm_tree.specs.declared.module.GlobalVar.{GlobalVar}
use Rattle.wasm_tree.specs.declared.module.LocalRun.{LocalRun}
use Rattle.wasm_tree.specs.declared.module.FuncBody.{FuncBody}
use Rattle.wasm_tree.specs.declared.module.Segment.{Segment}
use Rattle.wasm_tree.specs.declared.module.Custom.{Custom}
use Rattle.wasm_tree.specs.Spelled.{Joined, Is, Begins, Each, Index, Signed, Vector, Text, Utf8Text, Type_of_value, type_byte, Import_kind, Imported, Export_kind, Exported, mutable_byte, Instruction, IsConstant, Global, Data, Locals, LocalRuns, Expression, Body, Custom_contents}
use Rattle.wasm_tree.specs.Valid.{IsBodyWithinLimits}
use Rattle.wasm_writer.specs.Spelling.{unsigned_bytes, signed_bytes, vector_bytes, text_bytes, import_kind_bytes, import_bytes, export_kind_bytes, export_bytes, instruction_bytes, global_bytes, locals_bytes, code_bytes, body_bytes, segment_bytes, custom_contents}
use Rattle.wasm_writer.proofs.Nonempty.{locals_nonempty}
use Rattle.wasm_writer.proofs.Parts.{joined, begins, text_spelled, vector_count}

pub name_spelled : (name : List ℕ) → IsUtf8 name → Text name (text_bytes name) → Utf8Text name (text_bytes name)
name_spelled name utf8 spelled = record { spelled = spelled; utf8 = utf8 }

-- ---- imports and exports

pub import_spelled : (import : Import) → Utf8Text import.«module» (text_bytes import.«module») → Utf8Text import.name (text_bytes import.name) → Import_kind import.kind (import_kind_bytes import.kind) → Imported import (import_bytes import)
import_spelled import first second kind =
    joined (Utf8Text import.«module») (Joined (Utf8Text import.name) (Import_kind import.kind)) (text_bytes import.«module») (text_bytes import.name ++ import_kind_bytes import.kind) first
    (joined (Utf8Text import.name) (Import_kind import.kind) (text_bytes import.name) (import_kind_bytes import.kind) second kind)

text_within : (text : List ℕ) → length text ≤ length (text_bytes text)
text_within text = omega (arith, length-append (unsigned_bytes (length text)) text)

pub import_sizes : (import : Import) → length (import_bytes import) < 2 ^ 32 → (length import.«module» < 2 ^ 32) × (length import.name < 2 ^ 32)
import_sizes import h =
    let whole = length-append (text_bytes import.«module») (text_bytes import.name ++ import_kind_bytes import.kind) in
    let rest = length-append (text_bytes import.name) (import_kind_bytes import.kind) in
    (omega (arith, whole, text_within import.«module»), omega (arith, whole, rest, text_within import.name))

pub export_spelled : (entry : ExportEntry) → Utf8Text entry.name (text_bytes entry.name) → Export_kind entry.kind (export_kind_bytes entry.kind) → Exported entry (export_bytes entry)
export_spelled entry name kind = joined (Utf8Text entry.name) (Export_kind entry.kind) (text_bytes entry.name) (export_kind_bytes entry.kind) name kind

pub export_sizes : (entry : ExportEntry) → length (export_bytes entry) < 2 ^ 32 → length entry.name < 2 ^ 32
export_sizes entry h = omega (arith, length-append (text_bytes entry.name) (export_kind_bytes entry.kind), text_within entry.name)

-- ---- globals

pub global_spelled : (global : GlobalVar) → IsConstant global.value → Instruction global.value (instruction_bytes global.value) → Global global (global_bytes global)
global_spelled global constant value = record {
  spelled =
      joined (Type_of_value global.ty) (Begins (mutable_byte global.mutable) (Joined (Instruction global.value) (Is (0x0B ∷ [])))) (type_byte global.ty ∷ []) (mutable_byte global.mutable ∷ (instruction_bytes global.value ++ 0x0B ∷ [])) refl
      (begins (mutable_byte global.mutable) (Joined (Instruction global.value) (Is (0x0B ∷ []))) (instruction_bytes global.value ++ 0x0B ∷ [])
      (joined (Instruction global.value) (Is (0x0B ∷ [])) (instruction_bytes global.value) (0x0B ∷ []) value refl));
  constant = constant;
}

pub global_sizes : (global : GlobalVar) → length (global_bytes global) < 2 ^ 32 → length (instruction_bytes global.value) < 2 ^ 32
global_sizes global h = omega (arith, length-append (instruction_bytes global.value) (0x0B ∷ []))

-- ---- bodies

pub locals_spelled : (run : LocalRun) → Index run.count (unsigned_bytes run.count) → Locals run (locals_bytes run)
locals_spelled run h = joined (Index run.count) (Type_of_value run.ty) (unsigned_bytes run.count) (type_byte run.ty ∷ []) h refl

pub body_spelled : (body : FuncBody) → IsBodyWithinLimits body → length (code_bytes body) < 2 ^ 32 → Vector Locals body.locals (vector_bytes locals_bytes body.locals) → Each Instruction body.code (flat_map instruction_bytes body.code) → Body body (body_bytes body)
body_spelled body formed sized locals code =
    (code_bytes body, text_spelled (code_bytes body) sized, joined (LocalRuns body.locals) (Expression body.code) (vector_bytes locals_bytes body.locals) (flat_map instruction_bytes body.code) (record { spelled = locals; few = formed.locals }) (record { spelled = code; closed = formed.nesting }))

pub record BodySizes (body : FuncBody) : Type 0 where
  pub whole : length (code_bytes body) < 2 ^ 32
  pub counted : length body.locals < 2 ^ 32
  pub locals : length (vector_bytes locals_bytes body.locals) < 2 ^ 32
  pub code : length (flat_map instruction_bytes body.code) < 2 ^ 32

pub body_sizes : (body : FuncBody) → length (body_bytes body) < 2 ^ 32 → BodySizes body
body_sizes body h =
    let parts = length-append (vector_bytes locals_bytes body.locals) (flat_map instruction_bytes body.code) in
    let whole : length (code_bytes body) < 2 ^ 32 = omega (arith, text_within (code_bytes body)) in
    let locals : length (vector_bytes locals_bytes body.locals) < 2 ^ 32 = omega (arith, parts) in
    record { whole = whole; counted = vector_count locals_bytes body.locals locals_nonempty locals; locals = locals; code = omega (arith, parts) }

-- ---- data

pub segment_spelled : (segment : Segment) → Index segment.memory (unsigned_bytes segment.memory) → Signed 32 segment.offset (signed_bytes segment.offset) → Text segment.bytes (text_bytes segment.bytes) → Data segment (segment_bytes segment)
segment_spelled segment memory offset bytes =
    let after = 0x0B ∷ text_bytes segment.bytes in
    joined (Index segment.memory) (Begins 0x41 (Joined (Signed 32 segment.offset) (Begins 0x0B (Text segment.bytes)))) (unsigned_bytes segment.memory) (0x41 ∷ (signed_bytes segment.offset ++ after)) memory
    (begins 0x41 (Joined (Signed 32 segment.offset) (Begins 0x0B (Text segment.bytes))) (signed_bytes segment.offset ++ after)
    (joined (Signed 32 segment.offset) (Begins 0x0B (Text segment.bytes)) (signed_bytes segment.offset) after offset
    (begins 0x0B (Text segment.bytes) (text_bytes segment.bytes) bytes)))

pub segment_sizes : (segment : Segment) → length (segment_bytes segment) < 2 ^ 32 → length segment.bytes < 2 ^ 32
segment_sizes segment h =
    let after = 0x0B ∷ text_bytes segment.bytes in
    omega (arith, length-append (unsigned_bytes segment.memory) (0x41 ∷ (signed_bytes segment.offset ++ after)), length-append (signed_bytes segment.offset) after, text_within segment.bytes)

-- ---- custom sections

pub custom_spelled : (custom : Custom) → Utf8Text custom.name (text_bytes custom.name) → Custom_contents custom (custom_contents custom)
custom_spelled custom h = joined (Utf8Text custom.name) (Is custom.bytes) (text_bytes custom.name) custom.bytes h refl

pub custom_sizes : (custom : Custom) → length (custom_contents custom) < 2 ^ 32 → length custom.name < 2 ^ 32
custom_sizes custom h = omega (arith, length-append (text_bytes custom.name) custom.bytes, text_within custom.name)
