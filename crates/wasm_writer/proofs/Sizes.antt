-- How many bytes the parts of a module take.
use Rattle.std.proofs.Common.{◌≡◌, ℕ, zero, suc, ◌+◌, ◌/◌, ◌<◌, ◌≤◌, ◌^◌, ◌⊎◌, List, [], ◌∷◌, ◌++◌, length, get_or, take, Option, Some, None, refl, ap, ◌∙◌, arith, inl, inr}
use Rattle.std.specs.Prelude.{ℤ, pos, negsuc}
use Rattle.std.specs.List.{flat_map}
use Rattle.std.proofs.lemmas.Bool.{cases_lt}
use Rattle.std.proofs.lemmas.List.{length-append}
use Rattle.wasm_tree.specs.declared.module.FuncType.{FuncType}
use Rattle.wasm_tree.specs.declared.module.Import.{Import}
use Rattle.wasm_tree.specs.declared.module.ExportEntry.{ExportEntry}
use Rattle.wasm_tree.specs.declared.module.GlobalVar.{GlobalVar}
use Rattle.wasm_tree.specs.declared.module.LocalRun.{LocalRun}
use Rattle.wasm_tree.specs.declared.module.FuncBody.{FuncBody}
use Rattle.wasm_tree.specs.declared.module.Segment.{Segment}
use Rattle.wasm_tree.specs.declared.module.Custom.{Custom}
use Rattle.wasm_tree.specs.declared.instr.MemArg.{MemArg}
use Rattle.wasm_tree.specs.declared.instr.LabelTable.{LabelTable}
use Rattle.wasm_tree.specs.Spelled.{type_byte}
use Rattle.wasm_writer.specs.Size.{capped}
use Rattle.wasm_writer.specs.Spelling.{unsigned_within, unsigned_bytes, signed_within, signed_bytes, high_bits, vector_bytes, text_bytes, value_type_bytes, function_type_bytes, bounds_bytes, memory_argument_bytes, table_bytes, instruction_bytes, import_kind_bytes, import_bytes, export_kind_bytes, export_bytes, global_bytes, locals_bytes, code_bytes, body_bytes, segment_bytes, section_bytes, custom_contents, custom_bytes}
use Rattle.wasm_writer.proofs.Numbers.{unsigned_one, unsigned_more, magnitude, signed_one, signed_more, step_within}
use Rattle.wasm_writer.proofs.Parts.{parts_more}

-- ---- numbers

last : (k n : ℕ) → n < 128 → length (unsigned_within k n) ≡ 1
last k n h = rw (unsigned_one k n h) refl

more : (k n size : ℕ) → 128 ≤ n → length (unsigned_within k (n / 128)) ≡ size → length (unsigned_within (suc k) n) ≡ suc size
more k n size h e = rw (unsigned_more k n h) (omega arith)

at_most : (n : ℕ) → length (unsigned_within zero n) ≡ 1
unfolding unsigned_within
at_most n = refl

-- each seven bits past the lowest take a byte, up to the fifth
pub one_byte : (n : ℕ) → n < 128 → length (unsigned_bytes n) ≡ 1
unfolding unsigned_bytes
one_byte n h = last 4 n h

pub two_bytes : (n : ℕ) → 128 ≤ n → n < 16384 → length (unsigned_bytes n) ≡ 2
unfolding unsigned_bytes
two_bytes n l h = more 3 n 1 l (last 3 (n / 128) (omega arith))

pub three_bytes : (n : ℕ) → 16384 ≤ n → n < 2097152 → length (unsigned_bytes n) ≡ 3
unfolding unsigned_bytes
three_bytes n l h = more 3 n 2 (omega arith) (more 2 (n / 128) 1 (omega arith) (last 2 (n / 128 / 128) (omega arith)))

pub four_bytes : (n : ℕ) → 2097152 ≤ n → n < 268435456 → length (unsigned_bytes n) ≡ 4
unfolding unsigned_bytes
four_bytes n l h = more 3 n 3 (omega arith) (more 2 (n / 128) 2 (omega arith) (more 1 (n / 128 / 128) 1 (omega arith) (last 1 (n / 128 / 128 / 128) (omega arith))))

pub five_bytes : (n : ℕ) → 268435456 ≤ n → length (unsigned_bytes n) ≡ 5
unfolding unsigned_bytes
five_bytes n l = more 3 n 4 (omega arith) (more 2 (n / 128) 3 (omega arith) (more 1 (n / 128 / 128) 2 (omega arith) (more 0 (n / 128 / 128 / 128) 1 (omega arith) (at_most (n / 128 / 128 / 128 / 128)))))

unsigned_within_few : (k n : ℕ) → length (unsigned_within k n) ≤ k + 1
unfolding unsigned_within
unsigned_within_few zero n = omega arith
unsigned_within_few (suc k) n =
    elim (cases_lt n 128) [
      | inl lt ↦ rw (unsigned_one (suc k) n lt) (omega arith)
      | inr le ↦ rw (unsigned_more k n le) (omega (arith, unsigned_within_few k (n / 128)))
    ]

pub unsigned_few : (n : ℕ) → length (unsigned_bytes n) ≤ 5
unfolding unsigned_bytes
unsigned_few n = unsigned_within_few 4 n

-- a signed number takes as many bytes as its magnitude
signed_as : (k : ℕ) (z : ℤ) → length (signed_within k z) ≡ length (signed_within k (pos (magnitude z)))
unfolding signed_within
signed_as zero z = refl
signed_as (suc k) (pos n) = refl
signed_as (suc k) (negsuc n) =
    elim (cases_lt n 64) [
      | inl lt ↦ rw (signed_one (suc k) (negsuc n) lt, signed_one (suc k) (pos n) lt) refl
      | inr le ↦ rw (signed_more k (negsuc n) le, signed_more k (pos n) le) (omega (arith, signed_as k (negsuc (n / 128))))
    ]

pub signed_size_as : (z : ℤ) (n : ℕ) → (z ≡ pos n) ⊎ (z ≡ negsuc n) → length (signed_bytes z) ≡ length (signed_bytes (pos n))
unfolding signed_bytes
signed_size_as z n (inl e) = rw e refl
signed_size_as z n (inr e) = rw e (signed_as 9 (negsuc n))

signed_within_few : (k : ℕ) (z : ℤ) → length (signed_within k z) ≤ k + 1
unfolding signed_within
signed_within_few zero z = omega arith
signed_within_few (suc k) z =
    elim (cases_lt (magnitude z) 64) [
      | inl lt ↦ rw (signed_one (suc k) z lt) (omega arith)
      | inr le ↦ rw (signed_more k z le) (omega (arith, signed_within_few k (high_bits z)))
    ]

pub signed_few : (z : ℤ) → length (signed_bytes z) ≤ 10
unfolding signed_bytes
signed_few z = signed_within_few 9 z

-- a loop's turn: seven bits of the rest take a byte
pub signed_size_more : (n : ℕ) → n < 2 ^ 63 → 64 ≤ n → length (signed_bytes (pos n)) ≡ 1 + length (signed_bytes (pos (n / 128)))
signed_size_more n lt le = rw (step_within (pos n) lt le) (omega arith)

pub signed_size_last : (n : ℕ) → n < 64 → length (signed_bytes (pos n)) ≡ 1
unfolding signed_bytes
signed_size_last n lt = rw (signed_one 9 (pos n) lt) refl

-- ---- texts

pub text_sized : (text : List ℕ) (count size : ℕ) → count ≡ length (unsigned_bytes (length text)) → size ≡ capped (count + length text) → size ≡ capped (length (text_bytes text))
text_sized text count size h e = omega (arith, h, e, length-append (unsigned_bytes (length text)) text)

-- ---- parts one after another

-- two parts' sizes make the size of both
sum_sized : (front back : List ℕ) (first second size : ℕ) → first ≡ capped (length front) → second ≡ capped (length back) → size ≡ capped (first + second) → size ≡ capped (length (front ++ back))
sum_sized front back first second size f s e = omega (arith, f, s, e, length-append front back)

-- a loop's turn: one more part is counted
pub sized_more : {A : Type 0} (part : A → List ℕ) (xs : List A) (i : ℕ) (x : A) (before here size : ℕ) → i < length xs → x ≡ get_or xs i x → before ≡ capped (length (flat_map part (take i xs))) → here ≡ capped (length (part x)) → size ≡ capped (before + here) → size ≡ capped (length (flat_map part (take (i + 1) xs)))
sized_more part xs i x before here size lt is b h e =
    rw (parts_more part xs i x lt is) (sum_sized (flat_map part (take i xs)) (part x) before here size b h e)

pub vector_sized : {A : Type 0} (part : A → List ℕ) (xs : List A) (count each size : ℕ) → count ≡ length (unsigned_bytes (length xs)) → each ≡ capped (length (flat_map part xs)) → size ≡ capped (count + each) → size ≡ capped (length (vector_bytes part xs))
vector_sized part xs count each size c h e = omega (arith, c, h, e, length-append (unsigned_bytes (length xs)) (flat_map part xs))

-- ---- types

pub function_type_sized : (type : FuncType) (params results lists size : ℕ) → params ≡ capped (length (vector_bytes value_type_bytes type.params)) → results ≡ capped (length (vector_bytes value_type_bytes type.results)) → lists ≡ capped (params + results) → size ≡ capped (1 + lists) → size ≡ capped (length (function_type_bytes type))
function_type_sized type params results lists size p r l e = omega (arith, p, r, l, e, length-append (vector_bytes value_type_bytes type.params) (vector_bytes value_type_bytes type.results))

pub least_sized : (least : ℕ) (most : Option ℕ) → most ≡ None → length (bounds_bytes least most) ≡ 1 + length (unsigned_bytes least)
least_sized least most e = rw e (omega arith)

pub bounds_sized : (least most : ℕ) (limit : Option ℕ) → limit ≡ Some most → length (bounds_bytes least limit) ≡ 1 + length (unsigned_bytes least) + length (unsigned_bytes most)
bounds_sized least most limit e = rw e (omega (arith, length-append (unsigned_bytes least) (unsigned_bytes most)))

-- ---- instructions

pub memory_argument_sized : (place : MemArg) → length (memory_argument_bytes place) ≡ length (unsigned_bytes place.align) + length (unsigned_bytes place.offset)
memory_argument_sized place = length-append (unsigned_bytes place.align) (unsigned_bytes place.offset)

pub table_sized : (table : LabelTable) (labels other size : ℕ) → labels ≡ capped (length (vector_bytes unsigned_bytes table.labels)) → other ≡ length (unsigned_bytes table.other) → size ≡ capped (labels + other) → size ≡ capped (length (table_bytes table))
table_sized table labels other size l o e = omega (arith, l, o, e, length-append (vector_bytes unsigned_bytes table.labels) (unsigned_bytes table.other))

-- ---- entries

pub import_sized : (import : Import) (first second names kind size : ℕ) → first ≡ capped (length (text_bytes import.«module»)) → second ≡ capped (length (text_bytes import.name)) → names ≡ capped (first + second) → kind ≡ length (import_kind_bytes import.kind) → size ≡ capped (names + kind) → size ≡ capped (length (import_bytes import))
import_sized import first second names kind size f s n k e =
    omega (arith, f, s, n, k, e, length-append (text_bytes import.«module») (text_bytes import.name ++ import_kind_bytes import.kind), length-append (text_bytes import.name) (import_kind_bytes import.kind))

pub export_sized : (entry : ExportEntry) (name kind size : ℕ) → name ≡ capped (length (text_bytes entry.name)) → kind ≡ length (export_kind_bytes entry.kind) → size ≡ capped (name + kind) → size ≡ capped (length (export_bytes entry))
export_sized entry name kind size n k e = omega (arith, n, k, e, length-append (text_bytes entry.name) (export_kind_bytes entry.kind))

pub global_sized : (global : GlobalVar) (value size : ℕ) → value ≡ capped (length (instruction_bytes global.value)) → size ≡ capped (value + 3) → size ≡ capped (length (global_bytes global))
global_sized global value size v e = omega (arith, v, e, length-append (instruction_bytes global.value) (0x0B ∷ []))

pub locals_sized : (run : LocalRun) → length (locals_bytes run) ≡ length (unsigned_bytes run.count) + 1
locals_sized run = omega (arith, length-append (unsigned_bytes run.count) (type_byte run.ty ∷ []))

-- contents of 2 ^ 32 bytes and more have a size that takes bytes too, so that what stands there is past the bound
behind_sized : (bytes : List ℕ) (contents count size : ℕ) → contents ≡ capped (length bytes) → count ≡ length (unsigned_bytes contents) → size ≡ capped (count + contents) → size ≡ capped (length (text_bytes bytes))
behind_sized bytes contents count size c h e =
    let whole = length-append (unsigned_bytes (length bytes)) bytes in
    elim (cases_lt (length bytes) (2 ^ 32)) [
      | inl lt ↦
          let exact : contents ≡ length bytes = omega (arith, c, lt) in
          let count_is : count ≡ length (unsigned_bytes (length bytes)) = h ∙ ap (λ (n : ℕ). length (unsigned_bytes n)) exact in
          omega (arith, whole, exact, count_is, e)
      | inr le ↦ omega (arith, whole, c, le, e)
    ]

pub code_sized : (body : FuncBody) (locals code size : ℕ) → locals ≡ capped (length (vector_bytes locals_bytes body.locals)) → code ≡ capped (length (flat_map instruction_bytes body.code)) → size ≡ capped (locals + code) → size ≡ capped (length (code_bytes body))
code_sized body locals code size l c e = sum_sized (vector_bytes locals_bytes body.locals) (flat_map instruction_bytes body.code) locals code size l c e

pub body_sized : (body : FuncBody) (contents count size : ℕ) → contents ≡ capped (length (code_bytes body)) → count ≡ length (unsigned_bytes contents) → size ≡ capped (count + contents) → size ≡ capped (length (body_bytes body))
body_sized body contents count size c n e = behind_sized (code_bytes body) contents count size c n e

pub segment_sized : (segment : Segment) (memory offset bytes size : ℕ) → memory ≡ length (unsigned_bytes segment.memory) → offset ≡ length (signed_bytes segment.offset) → bytes ≡ capped (length (text_bytes segment.bytes)) → size ≡ capped (memory + offset + 2 + bytes) → size ≡ capped (length (segment_bytes segment))
segment_sized segment memory offset bytes size m o b e =
    let after = 0x0B ∷ text_bytes segment.bytes in
    omega (arith, m, o, b, e, length-append (unsigned_bytes segment.memory) (0x41 ∷ (signed_bytes segment.offset ++ after)), length-append (signed_bytes segment.offset) after)

pub custom_sized : (custom : Custom) (name size : ℕ) → name ≡ capped (length (text_bytes custom.name)) → size ≡ capped (name + length custom.bytes) → size ≡ capped (length (custom_contents custom))
custom_sized custom name size n e = omega (arith, n, e, length-append (text_bytes custom.name) custom.bytes)

pub custom_section_sized : (custom : Custom) (contents size : ℕ) → contents ≡ capped (length (custom_contents custom)) → size ≡ capped (1 + length (unsigned_bytes contents) + contents) → size ≡ capped (length (custom_bytes custom))
custom_section_sized custom contents size c e =
    let text : capped (length (unsigned_bytes contents) + contents) ≡ capped (length (text_bytes (custom_contents custom))) = behind_sized (custom_contents custom) contents (length (unsigned_bytes contents)) _ c refl refl in
    omega (arith, text, e)

-- ---- sections

pub section_absent : {A : Type 0} (part : A → List ℕ) (id : ℕ) (xs : List A) → length xs ≡ 0 → length (section_bytes id part xs) ≡ 0
section_absent part id [] h = refl
section_absent part id (x ∷ xs) h = absurd (omega arith)

pub section_sized : {A : Type 0} (part : A → List ℕ) (id : ℕ) (xs : List A) (size : ℕ) → 0 < length xs → size ≡ length (vector_bytes part xs) → length (section_bytes id part xs) ≡ 1 + length (unsigned_bytes size) + size
section_sized part id [] size h e = absurd (omega arith)
section_sized part id (x ∷ xs) size h e = rw e (omega (arith, length-append (unsigned_bytes (length (vector_bytes part (x ∷ xs)))) (vector_bytes part (x ∷ xs))))
