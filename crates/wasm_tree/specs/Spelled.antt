-- Which bytes spell a module: the binary format of Core Specification 1.0, chapter 5, for the subset of
-- docs/MODULE.md. A relation by cases on the module's parts; bytes have no position.
use Rattle.std.specs.Prelude.{ℕ, ◌≡◌, ◌+◌, ◌-◌, ◌*◌, ◌^◌, ◌<◌, ◌≤◌, ◌⊎◌, List, [], ◌∷◌, ◌++◌, length, sum_by, Contains, Option, Some, None, MatchOption, Bool, true, false, not, filter, codes, ℤ, pos, ◌+ℤ◌, ◌*ℤ◌, ◌==◌, if◌then◌else◌}
use Rattle.std.specs.Str.{IsUtf8, bytes_eq}
use Rattle.wasm_tree.specs.declared.module.ValType.{ValType}
use Rattle.wasm_tree.specs.declared.module.ValType.TheVariants.{I32, I64}
use Rattle.wasm_tree.specs.declared.module.FuncType.{FuncType}
use Rattle.wasm_tree.specs.declared.module.Limits.{Limits}
use Rattle.wasm_tree.specs.declared.module.ImportKind.{ImportKind}
use Rattle.wasm_tree.specs.declared.module.ImportKind.TheVariants as imported
use Rattle.wasm_tree.specs.declared.module.Import.{Import}
use Rattle.wasm_tree.specs.declared.module.ExportKind.{ExportKind}
use Rattle.wasm_tree.specs.declared.module.ExportKind.TheVariants as exported
use Rattle.wasm_tree.specs.declared.module.ExportEntry.{ExportEntry}
use Rattle.wasm_tree.specs.declared.module.GlobalVar.{GlobalVar}
use Rattle.wasm_tree.specs.declared.module.LocalRun.{LocalRun}
use Rattle.wasm_tree.specs.declared.module.FuncBody.{FuncBody}
use Rattle.wasm_tree.specs.declared.module.Segment.{Segment}
use Rattle.wasm_tree.specs.declared.module.Custom.{Custom}
use Rattle.wasm_tree.specs.declared.module.Module.{Module}
use Rattle.wasm_tree.specs.declared.instr.MemArg.{MemArg}
use Rattle.wasm_tree.specs.declared.instr.Instr.{Instr}
use Rattle.wasm_tree.specs.declared.instr.Instr.TheVariants as instr
use Rattle.wasm_tree.specs.Opcode.{opcode_of}
use Rattle.wasm_tree.specs.Control.{IsClosed}

-- ---- parts and sequences (5.1.1)

-- bytes that P allows and then bytes that Q allows
pub record Joined (P Q : List ℕ → Type 0) (bytes : List ℕ) : Type 0 where
  pub front : List ℕ
  pub back : List ℕ
  pub whole : bytes ≡ front ++ back
  pub first : P front
  pub second : Q back

-- just these bytes
abbrev pub Is : List ℕ → List ℕ → Type 0
Is these bytes = bytes ≡ these

-- the byte, and then bytes that Q allows
abbrev pub Begins : ℕ → (List ℕ → Type 0) → List ℕ → Type 0
Begins byte Q = Joined (Is (byte ∷ [])) Q

-- the elements one after another
abbrev pub Each : {A : Type 0} → (A → List ℕ → Type 0) → List A → List ℕ → Type 0
Each P [] bytes = bytes ≡ []
Each P (x ∷ xs) bytes = Joined (P x) (Each P xs) bytes

-- ---- values (5.2)

-- an unsigned number of at most this many bits: seven bits a byte, the lowest first, and 128 added to each
-- byte but the last. It has at most as many bytes as seven go into the bits, rounded up
abbrev pub Unsigned : ℕ → ℕ → List ℕ → Type 0
Unsigned bits n [] = ⊥
Unsigned bits n (b ∷ []) = (b < 128) × (b < 2 ^ bits) × (n ≡ b)
Unsigned bits n (b ∷ c ∷ bytes) =
    (128 ≤ b) × (b < 256) × (7 < bits) × (high : ℕ) × (n + 128 ≡ b + 128 * high) × Unsigned (bits - 7) high (c ∷ bytes)

-- the last byte of a signed number: its bit of value 64 is the sign
abbrev pub SignedLast : ℕ → ℤ → ℕ → Type 0
SignedLast bits z b =
    ((b < 64) × (b < 2 ^ (bits - 1)) × (z ≡ pos b)) ⊎ ((64 ≤ b) × (b < 128) × (128 ≤ b + 2 ^ (bits - 1)) × (z +ℤ pos 128 ≡ pos b))

-- a signed number of at most this many bits, in the same way
abbrev pub Signed : ℕ → ℤ → List ℕ → Type 0
Signed bits z [] = ⊥
Signed bits z (b ∷ []) = SignedLast bits z b
Signed bits z (b ∷ c ∷ bytes) =
    (128 ≤ b) × (b < 256) × (7 < bits) × (high : ℤ) × (z +ℤ pos 128 ≡ pos b +ℤ (pos 128 *ℤ high)) × Signed (bits - 7) high (c ∷ bytes)

abbrev pub Index : ℕ → List ℕ → Type 0
Index = Unsigned 32

-- a count, and as many elements (5.1.3)
abbrev pub Vector : {A : Type 0} → (A → List ℕ → Type 0) → List A → List ℕ → Type 0
Vector P xs = Joined (Index (length xs)) (Each P xs)

-- a length, and as many bytes
abbrev pub Text : List ℕ → List ℕ → Type 0
Text text = Joined (Index (length text)) (Is text)

-- a text that is UTF-8
pub record Utf8Text (name : List ℕ) (bytes : List ℕ) : Type 0 where
  pub spelled : Text name bytes
  pub utf8 : IsUtf8 name

-- ---- types (5.3)

abbrev pub type_byte : ValType → ℕ
type_byte I32 = 0x7F
type_byte I64 = 0x7E

abbrev pub Type_of_value : ValType → List ℕ → Type 0
Type_of_value type = Is (type_byte type ∷ [])

abbrev pub result_byte : Option ValType → ℕ
result_byte None = 0x40
result_byte (Some type) = type_byte type

abbrev pub Type_of_function : FuncType → List ℕ → Type 0
Type_of_function type = Begins 0x60 (Joined (Vector Type_of_value type.params) (Vector Type_of_value type.results))

abbrev pub Bounds : ℕ → Option ℕ → List ℕ → Type 0
Bounds least None = Begins 0x00 (Index least)
Bounds least (Some most) = Begins 0x01 (Joined (Index least) (Index most))

abbrev pub Memory : Limits → List ℕ → Type 0
Memory limits = Bounds limits.min limits.max

-- ---- instructions (5.4)

abbrev pub MemoryArgument : MemArg → List ℕ → Type 0
MemoryArgument place = Joined (Index place.align) (Index place.offset)

-- what stands behind the instruction's opcode
abbrev pub Immediates : Instr → List ℕ → Type 0
Immediates (instr.Block result) = Is (result_byte result ∷ [])
Immediates (instr.Loop result) = Is (result_byte result ∷ [])
Immediates (instr.If result) = Is (result_byte result ∷ [])
Immediates (instr.Br label) = Index label
Immediates (instr.BrIf label) = Index label
Immediates (instr.BrTable table) = Joined (Vector Index table.labels) (Index table.other)
Immediates (instr.Call function) = Index function
Immediates (instr.LocalGet local) = Index local
Immediates (instr.LocalSet local) = Index local
Immediates (instr.LocalTee local) = Index local
Immediates (instr.GlobalGet global) = Index global
Immediates (instr.GlobalSet global) = Index global
Immediates (instr.Load op place) = MemoryArgument place
Immediates (instr.Store op place) = MemoryArgument place
Immediates instr.MemorySize = Is (0x00 ∷ [])
Immediates (instr.I32Const value) = Signed 32 value
Immediates (instr.I64Const value) = Signed 64 value
Immediates _ = Is []

abbrev pub Instruction : Instr → List ℕ → Type 0
Instruction i = Begins (opcode_of i) (Immediates i)

-- a constant is the one instruction that a first value may be
abbrev pub IsConstant : Instr → Type 0
IsConstant (instr.I32Const value) = Unit {0}
IsConstant (instr.I64Const value) = Unit {0}
IsConstant _ = ⊥

-- the code of a function: whole sequences, and its own `End`
pub record Expression (code : List Instr) (bytes : List ℕ) : Type 0 where
  pub spelled : Each Instruction code bytes
  pub closed : IsClosed code

-- ---- modules (5.5)

abbrev pub Import_kind : ImportKind → List ℕ → Type 0
Import_kind (imported.Function type) = Begins 0x00 (Index type)
Import_kind (imported.Memory limits) = Begins 0x02 (Memory limits)

abbrev pub Imported : Import → List ℕ → Type 0
Imported import = Joined (Utf8Text import.«module») (Joined (Utf8Text import.name) (Import_kind import.kind))

abbrev pub Export_kind : ExportKind → List ℕ → Type 0
Export_kind (exported.Function function) = Begins 0x00 (Index function)
Export_kind (exported.Memory memory) = Begins 0x02 (Index memory)

abbrev pub Exported : ExportEntry → List ℕ → Type 0
Exported entry = Joined (Utf8Text entry.name) (Export_kind entry.kind)

abbrev pub mutable_byte : Bool → ℕ
mutable_byte false = 0x00
mutable_byte true = 0x01

pub record Global (global : GlobalVar) (bytes : List ℕ) : Type 0 where
  pub spelled : Joined (Type_of_value global.ty) (Begins (mutable_byte global.mutable) (Joined (Instruction global.value) (Is (0x0B ∷ [])))) bytes
  pub constant : IsConstant global.value

abbrev pub Data : Segment → List ℕ → Type 0
Data segment =
    Joined (Index segment.memory) (Begins 0x41 (Joined (Signed 32 segment.offset) (Begins 0x0B (Text segment.bytes))))

abbrev pub Locals : LocalRun → List ℕ → Type 0
Locals run = Joined (Index run.count) (Type_of_value run.ty)

-- how many locals a function may declare (this project's own limit)
abbrev pub most_locals : ℕ
most_locals = 65536

abbrev pub count_of_locals : List LocalRun → ℕ
count_of_locals runs = sum_by (λ run. run.count) runs

-- the locals of a function
pub record LocalRuns (runs : List LocalRun) (bytes : List ℕ) : Type 0 where
  pub spelled : Vector Locals runs bytes
  pub few : count_of_locals runs ≤ most_locals

-- a size, and as many bytes, which P allows
abbrev pub Sized : (List ℕ → Type 0) → List ℕ → Type 0
Sized P bytes = (contents : List ℕ) × Text contents bytes × P contents

abbrev pub Body : FuncBody → List ℕ → Type 0
Body body = Sized (Joined (LocalRuns body.locals) (Expression body.code))

-- a section as it stands: its id, and its contents behind their size
pub record Raw : Type 0 where
  pub id : ℕ
  pub contents : List ℕ

abbrev pub RawSection : Raw → List ℕ → Type 0
RawSection raw = Begins raw.id (Text raw.contents)

-- the ids of the subset's sections other than custom ones: types, imports, functions, memories, globals,
-- exports, codes and data
abbrev pub ids : List ℕ
ids = 1 ∷ 2 ∷ 3 ∷ 5 ∷ 6 ∷ 7 ∷ 10 ∷ 11 ∷ []

-- custom sections stand anywhere; the others come at most once, in the order of their ids, after the one before
abbrev pub InOrder : ℕ → List Raw → Type 0
InOrder before [] = Unit {0}
InOrder before (raw ∷ raws) = ((raw.id ≡ 0) × InOrder before raws) ⊎ ((before < raw.id) × Contains ids raw.id × InOrder raw.id raws)

-- the contents of the section with this id, if there is one
abbrev pub contents_of : ℕ → List Raw → Option (List ℕ)
contents_of id [] = None
contents_of id (raw ∷ raws) = if raw.id == id then Some raw.contents else contents_of id raws

-- what the section with this id lists, which is nothing where there is no such section
abbrev pub Lists : {A : Type 0} → (A → List ℕ → Type 0) → ℕ → List Raw → List A → Type 0
Lists P id raws xs = MatchOption (contents_of id raws) (xs ≡ []) (Vector P xs)

abbrev pub Custom_contents : Custom → List ℕ → Type 0
Custom_contents custom = Joined (Utf8Text custom.name) (Is custom.bytes)

-- the custom sections, in order
abbrev pub CustomsAre : List Raw → List Custom → Type 0
CustomsAre [] customs = customs ≡ []
CustomsAre (raw ∷ raws) [] = (0 < raw.id) × CustomsAre raws []
CustomsAre (raw ∷ raws) (custom ∷ customs) =
    ((raw.id ≡ 0) × Custom_contents custom raw.contents × CustomsAre raws customs) ⊎ ((0 < raw.id) × CustomsAre raws (custom ∷ customs))

-- `cmajor`, the name of the section that tells a host of the endpoints
abbrev pub cmajor : List ℕ
cmajor = codes "cmajor"

abbrev pub is_cmajor : List ℕ → Bool
is_cmajor name = bytes_eq name cmajor

-- custom sections of other names first, then those named `cmajor`, each in their order
abbrev pub sorted_customs : List Custom → List Custom
sorted_customs customs = filter (λ custom. not (is_cmajor custom.name)) customs ++ filter (λ custom. is_cmajor custom.name) customs

-- 00 61 73 6D, and version 1
abbrev pub header : List ℕ
header = 0x00 ∷ 0x61 ∷ 0x73 ∷ 0x6D ∷ 0x01 ∷ 0x00 ∷ 0x00 ∷ 0x00 ∷ []

pub record Spelled (bytes : List ℕ) (m : Module) : Type 0 where
  pub raws : List Raw
  pub found : List Custom
  pub whole : Joined (Is header) (Each RawSection raws) bytes
  pub order : InOrder 0 raws
  pub types : Lists Type_of_function 1 raws m.types
  pub imports : Lists Imported 2 raws m.imports
  pub functions : Lists Index 3 raws m.functions
  pub memory : Lists Memory 5 raws m.memory
  pub globals : Lists Global 6 raws m.globals
  pub exports : Lists Exported 7 raws m.exports
  pub codes : Lists Body 10 raws m.codes
  pub segments : Lists Data 11 raws m.segments
  pub customs : CustomsAre raws found
  pub sorted : m.customs ≡ sorted_customs found
  pub bodies : length m.functions ≡ length m.codes
