-- Reading from left to right, with the first fault that is met.
use Rattle.std.specs.Prelude.{◌≡◌, ℕ, zero, suc, ◌+◌, ◌-◌, ◌*◌, ◌^◌, min, List, [], ◌∷◌, ◌++◌, length, take, drop, Option, Some, None, Result, Ok, Err, nat_lt, nat_le, ◌==◌, if◌then◌else◌, Bool, true, false, ◌&&◌, ℤ, pos, ◌+ℤ◌, ◌-ℤ◌, ◌*ℤ◌}
use Rattle.std.specs.Str.{is_utf8}
use Rattle.std.specs.Str.Lossy.{utf8_valid_len}
use Rattle.wasm_tree.specs.declared.failure.ModuleRule.{ModuleRule}
use Rattle.wasm_tree.specs.declared.failure.ModuleRule.TheVariants as rule
use Rattle.wasm_tree.specs.declared.module.ValType.{ValType}
use Rattle.wasm_tree.specs.declared.module.ValType.TheVariants.{I32, I64}
use Rattle.wasm_tree.specs.declared.module.FuncType.{FuncType}
use Rattle.wasm_tree.specs.declared.module.Limits.{Limits}
use Rattle.wasm_tree.specs.declared.module.ImportKind.{ImportKind}
use Rattle.wasm_tree.specs.declared.module.ImportKind.TheVariants as imported
use Rattle.wasm_tree.specs.declared.module.Import.{Import}
use Rattle.wasm_tree.specs.declared.module.ExportKind.{ExportKind}
use Rattle.wasm_tree.specs.declared.module.ExportKind.TheVariants as exported
use Rattle.wasm_tree.specs.declared.module.ExportEntry.{ExportEntry}
use Rattle.wasm_tree.specs.declared.module.GlobalVar.{GlobalVar}
use Rattle.wasm_tree.specs.declared.module.LocalRun.{LocalRun}
use Rattle.wasm_tree.specs.declared.module.Segment.{Segment}
use Rattle.wasm_tree.specs.declared.instr.MemArg.{MemArg}
use Rattle.wasm_tree.specs.declared.instr.LabelTable.{LabelTable}
use Rattle.wasm_tree.specs.declared.instr.Instr.{Instr}
use Rattle.wasm_tree.specs.declared.instr.Instr.TheVariants as instr
use Rattle.wasm_tree.specs.declared.module.FuncBody.{FuncBody}
use Rattle.wasm_tree.specs.declared.module.Custom.{Custom}
use Rattle.wasm_tree.specs.declared.module.Module.{Module}
use Rattle.wasm_tree.specs.Control.{most_open, at_begin, after_instruction}
use Rattle.wasm_tree.specs.Spelled.{is_cmajor, header, most_locals}
use Rattle.wasm_reader.specs.Samples.{sample_of}
use Rattle.wasm_reader.specs.declared.section.Found.{Found}
use Rattle.wasm_reader.specs.declared.fault.Fault.{Fault}
use Rattle.wasm_reader.specs.declared.fault.ReadFail.{ReadFail}
use Rattle.wasm_reader.specs.declared.fault.ReadFail.TheVariants as fail

infixl 10 ◌>>=◌
abbrev pub ◌>>=◌ : {A B : Type 0} → Result A Fault → (A → Result B Fault) → Result B Fault
(Ok x) >>= f = f x
(Err e) >>= f = Err e

abbrev pub at : ModuleRule → ℕ → Fault
at r n = record { rule = r; left = n }

-- What a function returned, seen by view, is what reading gives, unless memory ran out.
abbrev pub Fails : {Y : Type 0} → ReadFail → Result Y Fault → Type 0
Fails fail.NoMemory read = Unit {0}
Fails (fail.Fault f) read = read ≡ Err f

abbrev pub Gives : {X Y : Type 0} → (X → Y) → Result X ReadFail → Result Y Fault → Type 0
Gives view (Ok x) read = read ≡ Ok (view x)
Gives view (Err e) read = Fails e read

abbrev pub Reader : Type 0 → Type 0
Reader A = List ℕ → Result (A × List ℕ) Fault

-- the first byte
unfoldable pub byte_at : Reader ℕ
byte_at [] = Err (at rule.Size 0)
byte_at (b ∷ rest) = Ok (b, rest)

-- ---- numbers

abbrev pub or_fault : {A : Type 0} → Fault → Option A → Result A Fault
or_fault f None = Err f
or_fault f (Some x) = Ok x

-- A number of at most this many bits, which began where start bytes were left: what its last byte stands for, if
-- that fits, and what a byte before stands for with the bits above it.
unfoldable pub number_from : {A : Type 0} → (ℕ → ℕ → Option A) → (ℕ → A → A) → ℕ → ℕ → Reader A
number_from last more start bits [] = Err (at rule.Size 0)
number_from last more start bits (b ∷ rest) =
    if nat_lt b 128 then (or_fault (at rule.Number start) (last bits b) >>= λ z. Ok (z, rest))
    else (if nat_lt 7 bits && nat_lt b 256 then (number_from last more start (bits - 7) rest >>= λ high. Ok (more b high.0, high.1)) else Err (at rule.Number start))

abbrev pub last_unsigned : ℕ → ℕ → Option ℕ
last_unsigned bits b = if nat_lt b (2 ^ bits) then Some b else None

abbrev pub more_unsigned : ℕ → ℕ → ℕ
more_unsigned b high = (b - 128) + 128 * high

abbrev pub unsigned_from : ℕ → ℕ → Reader ℕ
unsigned_from = number_from last_unsigned more_unsigned

unfoldable pub index_at : Reader ℕ
index_at bytes = unsigned_from (length bytes) 32 bytes

-- a byte below 128 as a number of seven bits with a sign
abbrev pub signed_byte : ℕ → ℤ
signed_byte b = if nat_lt b 64 then pos b else pos b -ℤ pos 128

-- the same with a sign
abbrev pub last_signed : ℕ → ℕ → Option ℤ
last_signed bits b = if nat_lt (if nat_lt b 64 then b else 127 - b) (2 ^ (bits - 1)) then Some (signed_byte b) else None

abbrev pub more_signed : ℕ → ℤ → ℤ
more_signed b high = pos (b - 128) +ℤ (pos 128 *ℤ high)

abbrev pub signed_from : ℕ → ℕ → Reader ℤ
signed_from = number_from last_signed more_signed

unfoldable pub signed_at : ℕ → Reader ℤ
signed_at bits bytes = signed_from (length bytes) bits bytes

-- the bytes after the one that is due
unfoldable pub fixed_at : ℕ → List ℕ → Result (List ℕ) Fault
fixed_at due bytes = do
  b ← byte_at bytes
  if b.0 == due then Ok b.1 else Err (at rule.Opcode (length bytes))

-- ---- lists

unfoldable pub each_at : {A : Type 0} → Reader A → ℕ → Reader (List A)
each_at f zero bytes = Ok ([], bytes)
each_at f (suc n) bytes = f bytes >>= λ first. each_at f n first.1 >>= λ others. Ok (first.0 ∷ others.0, others.1)

unfoldable pub vector_at : {A : Type 0} → Reader A → Reader (List A)
vector_at f bytes = do
  count ← index_at bytes
  each_at f count.0 count.1

-- a fault in contents, counted to the end of the whole that they are the front of
abbrev pub moved : ℕ → ℕ → Fault → Fault
moved contents whole f = record { rule = f.rule; left = whole - (contents - f.left) }

abbrev pub outside_of : ℕ → ℕ → ReadFail → ReadFail
outside_of contents whole fail.NoMemory = fail.NoMemory
outside_of contents whole (fail.Fault f) = fail.Fault (moved contents whole f)

-- contents that fill their size, and what follows them
abbrev pub full_at : {A : Type 0} → ℕ → List ℕ → Result (A × List ℕ) Fault → Result (A × List ℕ) Fault
full_at size rest (Err f) = Err (moved (min size (length rest)) (length rest) f)
full_at size rest (Ok x) =
    if (length x.1 == 0) && nat_le size (length rest) then Ok (x.0, drop size rest)
    else Err (moved (min size (length rest)) (length rest) (at rule.Size (length x.1)))

unfoldable pub filled_at : {A : Type 0} → Reader A → Reader A
filled_at f bytes = do
  size ← index_at bytes
  full_at size.0 size.1 (f (take size.0 size.1))

-- so many bytes
unfoldable pub take_at : ℕ → Reader (List ℕ)
take_at n bytes = if nat_lt (length bytes) n then Err (at rule.Size 0) else Ok (take n bytes, drop n bytes)

unfoldable pub text_at : Reader (List ℕ)
text_at bytes = do
  n ← index_at bytes
  take_at n.0 n.1

-- so many bytes, which are UTF-8
unfoldable pub utf8_at : ℕ → Reader (List ℕ)
utf8_at n bytes = do
  text ← take_at n bytes
  if is_utf8 text.0 then Ok text else Err (at rule.Text (length bytes - utf8_valid_len text.0))

unfoldable pub name_at : Reader (List ℕ)
name_at bytes = do
  n ← index_at bytes
  utf8_at n.0 n.1

-- ---- types and entries

unfoldable pub type_at : Reader ValType
type_at bytes = do
  b ← byte_at bytes
  if b.0 == 0x7F then Ok (I32, b.1) else (if b.0 == 0x7E then Ok (I64, b.1) else Err (at rule.Opcode (length bytes)))

unfoldable pub function_type_at : Reader FuncType
function_type_at bytes = do
  rest ← fixed_at 0x60 bytes
  params ← vector_at type_at rest
  results ← vector_at type_at params.1
  Ok (record { params = params.0; results = results.0 }, results.1)

unfoldable pub memory_at : Reader Limits
memory_at bytes = do
  b ← byte_at bytes
  if b.0 == 0x00 then (index_at b.1 >>= λ least. Ok (record { min = least.0; max = None }, least.1))
      else (if b.0 == 0x01 then (index_at b.1 >>= λ least. index_at least.1 >>= λ most. Ok (record { min = least.0; max = Some most.0 }, most.1))
      else Err (at rule.Opcode (length bytes)))

unfoldable pub import_kind_at : Reader ImportKind
import_kind_at bytes = do
  b ← byte_at bytes
  if b.0 == 0x00 then (index_at b.1 >>= λ n. Ok (imported.Function n.0, n.1))
      else (if b.0 == 0x02 then (memory_at b.1 >>= λ m. Ok (imported.Memory m.0, m.1))
      else Err (at rule.Opcode (length bytes)))

unfoldable pub import_at : Reader Import
import_at bytes = do
  m ← name_at bytes
  n ← name_at m.1
  kind ← import_kind_at n.1
  Ok (record { «module» = m.0; name = n.0; kind = kind.0 }, kind.1)

unfoldable pub export_kind_at : Reader ExportKind
export_kind_at bytes = do
  b ← byte_at bytes
  if b.0 == 0x00 then (index_at b.1 >>= λ n. Ok (exported.Function n.0, n.1))
      else (if b.0 == 0x02 then (index_at b.1 >>= λ n. Ok (exported.Memory n.0, n.1))
      else Err (at rule.Opcode (length bytes)))

unfoldable pub export_at : Reader ExportEntry
export_at bytes = do
  n ← name_at bytes
  kind ← export_kind_at n.1
  Ok (record { name = n.0; kind = kind.0 }, kind.1)

unfoldable pub mutable_at : Reader Bool
mutable_at bytes = do
  b ← byte_at bytes
  if b.0 == 0x00 then Ok (false, b.1) else (if b.0 == 0x01 then Ok (true, b.1) else Err (at rule.Opcode (length bytes)))

unfoldable pub constant_at : Reader Instr
constant_at bytes = do
  b ← byte_at bytes
  if b.0 == 0x41 then (signed_at 32 b.1 >>= λ z. Ok (instr.I32Const z.0, z.1))
      else (if b.0 == 0x42 then (signed_at 64 b.1 >>= λ z. Ok (instr.I64Const z.0, z.1))
      else Err (at rule.Opcode (length bytes)))

unfoldable pub global_at : Reader GlobalVar
global_at bytes = do
  type ← type_at bytes
  mutable ← mutable_at type.1
  value ← constant_at mutable.1
  rest ← fixed_at 0x0B value.1
  Ok (record { ty = type.0; mutable = mutable.0; value = value.0 }, rest)

unfoldable pub segment_at : Reader Segment
segment_at bytes = do
  memory ← index_at bytes
  opcode ← fixed_at 0x41 memory.1
  offset ← signed_at 32 opcode
  ended ← fixed_at 0x0B offset.1
  text ← text_at ended
  Ok (record { memory = memory.0; offset = offset.0; bytes = text.0 }, text.1)

-- a run of locals, of which a function has so many before
unfoldable pub locals_at : ℕ → Reader LocalRun
locals_at before bytes = do
  count ← index_at bytes
  if nat_lt most_locals (before + count.0) then Err (at rule.Limit (length bytes))
      else (type_at count.1 >>= λ type. Ok (record { count = count.0; ty = type.0 }, type.1))

-- so many runs, behind so many locals
unfoldable pub runs_from : ℕ → ℕ → Reader (List LocalRun)
runs_from zero before bytes = Ok ([], bytes)
runs_from (suc n) before bytes = locals_at before bytes >>= λ run. runs_from n (before + run.0.count) run.1 >>= λ others. Ok (run.0 ∷ others.0, others.1)

unfoldable pub local_runs_at : Reader (List LocalRun)
local_runs_at bytes = do
  count ← index_at bytes
  runs_from count.0 0 count.1

-- ---- instructions

unfoldable pub block_type_at : Reader (Option ValType)
block_type_at bytes = do
  b ← byte_at bytes
  if b.0 == 0x40 then Ok (None, b.1) else (type_at bytes >>= λ t. Ok (Some t.0, t.1))

unfoldable pub place_at : Reader MemArg
place_at bytes = do
  align ← index_at bytes
  offset ← index_at align.1
  Ok (record { align = align.0; offset = offset.0 }, offset.1)

unfoldable pub labels_at : Reader LabelTable
labels_at bytes = do
  labels ← vector_at index_at bytes
  other ← index_at labels.1
  Ok (record { labels = labels.0; other = other.0 }, other.1)

-- an instruction like this one, by what stands behind its opcode
abbrev pub immediates_at : Instr → Reader Instr
immediates_at (instr.Block _) bytes = block_type_at bytes >>= λ t. Ok (instr.Block t.0, t.1)
immediates_at (instr.Loop _) bytes = block_type_at bytes >>= λ t. Ok (instr.Loop t.0, t.1)
immediates_at (instr.If _) bytes = block_type_at bytes >>= λ t. Ok (instr.If t.0, t.1)
immediates_at (instr.Br _) bytes = index_at bytes >>= λ n. Ok (instr.Br n.0, n.1)
immediates_at (instr.BrIf _) bytes = index_at bytes >>= λ n. Ok (instr.BrIf n.0, n.1)
immediates_at (instr.BrTable _) bytes = labels_at bytes >>= λ t. Ok (instr.BrTable t.0, t.1)
immediates_at (instr.Call _) bytes = index_at bytes >>= λ n. Ok (instr.Call n.0, n.1)
immediates_at (instr.LocalGet _) bytes = index_at bytes >>= λ n. Ok (instr.LocalGet n.0, n.1)
immediates_at (instr.LocalSet _) bytes = index_at bytes >>= λ n. Ok (instr.LocalSet n.0, n.1)
immediates_at (instr.LocalTee _) bytes = index_at bytes >>= λ n. Ok (instr.LocalTee n.0, n.1)
immediates_at (instr.GlobalGet _) bytes = index_at bytes >>= λ n. Ok (instr.GlobalGet n.0, n.1)
immediates_at (instr.GlobalSet _) bytes = index_at bytes >>= λ n. Ok (instr.GlobalSet n.0, n.1)
immediates_at (instr.Load op _) bytes = place_at bytes >>= λ p. Ok (instr.Load op p.0, p.1)
immediates_at (instr.Store op _) bytes = place_at bytes >>= λ p. Ok (instr.Store op p.0, p.1)
immediates_at instr.MemorySize bytes = fixed_at 0x00 bytes >>= λ rest. Ok (instr.MemorySize, rest)
immediates_at (instr.I32Const _) bytes = signed_at 32 bytes >>= λ z. Ok (instr.I32Const z.0, z.1)
immediates_at (instr.I64Const _) bytes = signed_at 64 bytes >>= λ z. Ok (instr.I64Const z.0, z.1)
immediates_at i bytes = Ok (i, bytes)

-- what stands behind an opcode, if it is one, which began where start bytes were left
abbrev pub like_at : ℕ → Option Instr → Reader Instr
like_at start None bytes = Err (at rule.Opcode start)
like_at start (Some i) bytes = immediates_at i bytes

unfoldable pub behind_at : ℕ → ℕ → Reader Instr
behind_at start opcode bytes = like_at start (sample_of opcode) bytes

unfoldable pub instruction_at : Reader Instr
instruction_at bytes = do
  opcode ← byte_at bytes
  behind_at (length bytes) opcode.0 opcode.1

-- ---- code

-- whether the first byte is the opcode of `block`, `loop` or `if`
unfoldable pub opens : List ℕ → Bool
opens [] = false
opens (b ∷ bytes) = nat_le 0x02 b && nat_le b 0x04

-- A sequence is opened only inside as many as may be open.
unfoldable pub room_at : List Bool → List ℕ → Result Unit Fault
room_at arms bytes = if nat_lt most_open (length arms) && opens bytes then Err (at rule.Limit (length bytes)) else Ok tt

-- what is open after an instruction that began where start bytes were left
abbrev pub follow_at : ℕ → List Bool → Instr → Result (List Bool) Fault
follow_at start arms i = or_fault (at rule.Opcode start) (after_instruction arms i)

-- the next instruction, and what is open after it
unfoldable pub next_at : List Bool → Reader (Instr × List Bool)
next_at arms bytes = do
  _ ← room_at arms bytes
  i ← instruction_at bytes
  next ← follow_at (length bytes) arms i.0
  Ok ((i.0, next), i.1)

-- at most so many instructions, up to the end of the function
unfoldable pub code_from : ℕ → List Bool → Reader (List Instr)
code_from zero arms bytes = Err (at rule.Size 0)
code_from (suc n) arms bytes = next_at arms bytes >>= λ i. if length i.0.1 == 0 then Ok (i.0.0 ∷ [], i.1) else (code_from n i.0.1 i.1 >>= λ more. Ok (i.0.0 ∷ more.0, more.1))

unfoldable pub expression_at : Reader (List Instr)
expression_at bytes = code_from (length bytes) at_begin bytes

unfoldable pub body_at : Reader FuncBody
body_at bytes = do
  locals ← local_runs_at bytes
  code ← expression_at locals.1
  Ok (record { locals = locals.0; code = code.0 }, code.1)

-- ---- sections

unfoldable pub custom_at : Reader Custom
custom_at bytes = do
  n ← name_at bytes
  Ok (record { name = n.0; bytes = n.1 }, [])

abbrev pub with_custom : Custom → Found → Found
with_custom custom found =
    if is_cmajor custom.name then record { others = found.others; named = found.named ++ custom ∷ [] }
    else record { others = found.others ++ custom ∷ []; named = found.named }

-- the bytes behind this id, if it is the first byte
unfoldable pub behind_id : ℕ → List ℕ → Option (List ℕ)
behind_id id [] = None
behind_id id (b ∷ bytes) = if b == id then Some bytes else None

abbrev pub choice : {A B : Type 0} → Option A → B → (A → B) → B
choice None other f = other
choice (Some x) other f = f x

-- at most so many custom sections at the front
unfoldable pub customs_at : ℕ → Found → Reader Found
customs_at zero found bytes = Ok (found, bytes)
customs_at (suc n) found bytes =
    choice (behind_id 0 bytes) (Ok (found, bytes)) (λ contents. filled_at custom_at contents >>= λ c. customs_at n (with_custom c.0 found) c.1)

-- what the section with this id lists, if the bytes begin with it
abbrev pub listed_at : {A : Type 0} → Reader A → ℕ → Found → Reader (List A × Found)
listed_at f id found bytes =
    choice (behind_id id bytes) (Ok (([], found), bytes)) (λ contents. filled_at (vector_at f) contents >>= λ x. Ok ((x.0, found), x.1))

unfoldable pub section_at : {A : Type 0} → Reader A → ℕ → Found → Reader (List A × Found)
section_at f id found bytes = customs_at (length bytes) found bytes >>= λ c. listed_at f id c.0 c.1

-- ---- modules

-- the bytes after the one of the header that is due
unfoldable pub header_byte_at : ℕ → List ℕ → Result (List ℕ) Fault
header_byte_at due [] = Err (at rule.Header 0)
header_byte_at due (b ∷ bytes) = if b == due then Ok bytes else Err (at rule.Header (suc (length bytes)))

unfoldable pub header_at : List ℕ → List ℕ → Result (List ℕ) Fault
header_at [] bytes = Ok bytes
header_at (due ∷ dues) bytes = header_byte_at due bytes >>= λ rest. header_at dues rest

-- What stands behind a section: what it lists, and all custom sections, those found before first, and those named
-- `cmajor` last.
abbrev pub Others : Type 0 → Type 0
Others B = Found → List ℕ → Result (B × List Custom) Fault

-- custom sections, and nothing behind them
unfoldable pub last_at : Others (Unit {0})
last_at found bytes = do
  last ← customs_at (length bytes) found bytes
  if length last.1 == 0 then Ok (tt, last.0.others ++ last.0.named) else Err (at rule.Section (length last.1))

-- what a section lists, with what the others behind it list
abbrev pub with_others : {A B : Type 0} → Others B → (List A × Found) × List ℕ → Result ((List A × B) × List Custom) Fault
with_others others x = others x.0.1 x.1 >>= λ y. Ok ((x.0.0, y.0), y.1)

-- the section with this id, and the others behind it
unfoldable pub section_then : {A B : Type 0} → Reader A → ℕ → Others B → Others (List A × B)
section_then f id others found bytes = section_at f id found bytes >>= λ x. with_others others x

-- what each section lists, in the order of their ids
abbrev pub Parts : Type 0
Parts = List FuncType × (List Import × (List ℕ × (List Limits × (List GlobalVar × (List ExportEntry × (List FuncBody × (List Segment × Unit {0})))))))

unfoldable pub sections_at : Others Parts
sections_at =
    section_then function_type_at 1 (section_then import_at 2 (section_then index_at 3 (section_then memory_at 5
    (section_then global_at 6 (section_then export_at 7 (section_then (filled_at body_at) 10 (section_then segment_at 11 last_at)))))))

abbrev pub whole_of : Parts → List Custom → Module
whole_of p customs = record {
  types = p.0;
  imports = p.1.0;
  functions = p.1.1.0;
  memory = p.1.1.1.0;
  globals = p.1.1.1.1.0;
  exports = p.1.1.1.1.1.0;
  codes = p.1.1.1.1.1.1.0;
  segments = p.1.1.1.1.1.1.1.0;
  customs = customs;
}

-- a module has as many functions as codes
abbrev pub counted : Module → Result Module Fault
counted m = if length m.functions == length m.codes then Ok m else Err (at rule.Size 0)

unfoldable pub module_at : List ℕ → Result Module Fault
module_at bytes = do
  rest ← header_at header bytes
  parts ← sections_at (record { others = []; named = [] }) rest
  counted (whole_of parts.0 parts.1)
