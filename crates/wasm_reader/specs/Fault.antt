-- Which rule fails where: docs/MODULE.md, "What is refused". Each definition relates a rule, how many bytes are
-- left from the byte at which it fails, and the bytes. A rule fails at a byte only where the parts before it are
-- spelled, one after another.
use Rattle.std.specs.Prelude.{ℕ, ◌≡◌, ◌≢◌, ◌+◌, ◌-◌, ◌<◌, ◌≤◌, ◌⊎◌, List, [], ◌∷◌, ◌++◌, length, take, Contains, Option, None, Bool, ◌==◌, if◌then◌else◌}
use Rattle.std.specs.Str.{IsUtf8}
use Rattle.std.specs.Str.Lossy.{utf8_valid_len}
use Rattle.wasm_tree.specs.declared.failure.ModuleRule.{ModuleRule}
use Rattle.wasm_tree.specs.declared.failure.ModuleRule.TheVariants as rule
use Rattle.wasm_tree.specs.declared.failure.ModuleFail.{ModuleFail}
use Rattle.wasm_tree.specs.declared.failure.ModuleFail.TheVariants as fail
use Rattle.wasm_tree.specs.declared.module.ValType.{ValType}
use Rattle.wasm_tree.specs.declared.module.FuncType.{FuncType}
use Rattle.wasm_tree.specs.declared.module.Import.{Import}
use Rattle.wasm_tree.specs.declared.module.Limits.{Limits}
use Rattle.wasm_tree.specs.declared.module.ExportEntry.{ExportEntry}
use Rattle.wasm_tree.specs.declared.module.GlobalVar.{GlobalVar}
use Rattle.wasm_tree.specs.declared.module.LocalRun.{LocalRun}
use Rattle.wasm_tree.specs.declared.module.FuncBody.{FuncBody}
use Rattle.wasm_tree.specs.declared.module.Segment.{Segment}
use Rattle.wasm_tree.specs.declared.module.Custom.{Custom}
use Rattle.wasm_tree.specs.declared.instr.Instr.{Instr}
use Rattle.wasm_tree.specs.declared.instr.Instr.TheVariants as instr
use Rattle.wasm_tree.specs.Opcode.{opcode_of}
use Rattle.wasm_tree.specs.Control.{most_open, after_instruction, IsOpen}
use Rattle.wasm_tree.specs.Spelled.{Joined, Is, Begins, Each, Vector, Index, Signed, Utf8Text, Type_of_value, Type_of_function, Memory, Imported, Exported, Global, Data, Locals, LocalRuns, count_of_locals, most_locals, Body, Expression, Instruction, IsConstant, Custom_contents, Raw, RawSection, ids, InOrder, Lists, header, type_byte, result_byte, mutable_byte}

-- ---- parts and sequences

-- the first part fails, or it is spelled and what follows it fails
abbrev pub InTurn : {A : Type 0} → (ModuleRule → ℕ → List ℕ → Type 0) → (A → List ℕ → Type 0) → (A → ModuleRule → ℕ → List ℕ → Type 0) → ModuleRule → ℕ → List ℕ → Type 0
InTurn {A} F P G r left bytes = F r left bytes ⊎ ((x : A) × Joined (P x) (G x r left) bytes)

-- `Opcode`: another byte stands where one of these is due; `Size`: it is missing
abbrev pub OtherByte : (ℕ → Type 0) → ModuleRule → ℕ → List ℕ → Type 0
OtherByte due r left [] = (r ≡ rule.Size) × (left ≡ 0)
OtherByte due r left (b ∷ bytes) = (r ≡ rule.Opcode) × (left ≡ length (b ∷ bytes)) × (due b → ⊥)

-- the byte that is due isn't there, or what follows it fails
abbrev pub Behind : ℕ → (ModuleRule → ℕ → List ℕ → Type 0) → ModuleRule → ℕ → List ℕ → Type 0
Behind due G r left bytes = OtherByte (λ b. b ≡ due) r left bytes ⊎ Begins due (G r left) bytes

-- ---- values

-- `Number`: however the bytes go on, no number of the kind begins them; `Size`: the rest of one is missing
abbrev pub NoNumber : {A : Type 0} → (A → List ℕ → Type 0) → ModuleRule → ℕ → List ℕ → Type 0
NoNumber {A} P r left bytes =
    ((r ≡ rule.Number) × (left ≡ length bytes) × ((x : A) (more front back : List ℕ) → bytes ++ more ≡ front ++ back → P x front → ⊥))
    ⊎ ((r ≡ rule.Size) × (left ≡ 0) × (x : A) × (more : List ℕ) × (0 < length more) × P x (bytes ++ more))

abbrev pub NoIndex : ModuleRule → ℕ → List ℕ → Type 0
NoIndex = NoNumber Index

-- the count fails, or after fewer elements than it says one fails
abbrev pub NoVector : {A : Type 0} → (A → List ℕ → Type 0) → (ModuleRule → ℕ → List ℕ → Type 0) → ModuleRule → ℕ → List ℕ → Type 0
NoVector {A} P F = InTurn NoIndex Index (λ n r left bytes. (xs : List A) × (length xs < n) × Joined (Each P xs) (F r left) bytes)

-- `Size`: fewer bytes are left than the length says
abbrev pub TooShort : ℕ → ModuleRule → ℕ → List ℕ → Type 0
TooShort n r left bytes = (r ≡ rule.Size) × (left ≡ 0) × (length bytes < n)

abbrev pub NoText : ModuleRule → ℕ → List ℕ → Type 0
NoText = InTurn NoIndex Index TooShort

-- `Text`: so many bytes are no UTF-8; the rule fails behind the longest front that is
abbrev pub IllFormed : ℕ → ModuleRule → ℕ → List ℕ → Type 0
IllFormed n r left bytes = (r ≡ rule.Text) × (n ≤ length bytes) × (IsUtf8 (take n bytes) → ⊥) × (left ≡ length bytes - utf8_valid_len (take n bytes))

abbrev pub NoName : ModuleRule → ℕ → List ℕ → Type 0
NoName = InTurn NoIndex Index (λ n r left bytes. TooShort n r left bytes ⊎ IllFormed n r left bytes)

-- What fills a size of n bytes fails; or `Size`: it ends before the size does, or fewer bytes are left.
abbrev pub Unfilled : {A : Type 0} → (A → List ℕ → Type 0) → (ModuleRule → ℕ → List ℕ → Type 0) → ℕ → ModuleRule → ℕ → List ℕ → Type 0
Unfilled {A} P F n r left bytes =
    ((inner : ℕ) × F r inner (take n bytes) × (left + length (take n bytes) ≡ inner + length bytes))
    ⊎ ((x : A) × (front : List ℕ) × (back : List ℕ) × (take n bytes ≡ front ++ back) × P x front × (r ≡ rule.Size) × (left + length front ≡ length bytes) × ((0 < length back) ⊎ (length bytes < n)))

abbrev pub NoneSized : {A : Type 0} → (A → List ℕ → Type 0) → (ModuleRule → ℕ → List ℕ → Type 0) → ModuleRule → ℕ → List ℕ → Type 0
NoneSized P F = InTurn NoIndex Index (Unfilled P F)

-- ---- types and entries

abbrev pub NoType : ModuleRule → ℕ → List ℕ → Type 0
NoType = OtherByte (λ b. (t : ValType) × (b ≡ type_byte t))

abbrev pub NoFunctionType : ModuleRule → ℕ → List ℕ → Type 0
NoFunctionType = Behind 0x60 (InTurn (NoVector Type_of_value NoType) (Vector Type_of_value) (λ _. NoVector Type_of_value NoType))

abbrev pub NoMemory : ModuleRule → ℕ → List ℕ → Type 0
NoMemory r left bytes = OtherByte (λ b. (b ≡ 0x00) ⊎ (b ≡ 0x01)) r left bytes ⊎ (Begins 0x00 (NoIndex r left) bytes ⊎ Begins 0x01 (InTurn NoIndex Index (λ _. NoIndex) r left) bytes)

abbrev pub NoImportKind : ModuleRule → ℕ → List ℕ → Type 0
NoImportKind r left bytes = OtherByte (λ b. (b ≡ 0x00) ⊎ (b ≡ 0x02)) r left bytes ⊎ (Begins 0x00 (NoIndex r left) bytes ⊎ Begins 0x02 (NoMemory r left) bytes)

abbrev pub NoExportKind : ModuleRule → ℕ → List ℕ → Type 0
NoExportKind r left bytes = OtherByte (λ b. (b ≡ 0x00) ⊎ (b ≡ 0x02)) r left bytes ⊎ (Begins 0x00 (NoIndex r left) bytes ⊎ Begins 0x02 (NoIndex r left) bytes)

abbrev pub NoImport : ModuleRule → ℕ → List ℕ → Type 0
NoImport = InTurn NoName Utf8Text (λ _. InTurn NoName Utf8Text (λ _. NoImportKind))

abbrev pub NoExport : ModuleRule → ℕ → List ℕ → Type 0
NoExport = InTurn NoName Utf8Text (λ _. NoExportKind)

-- a global's first value is a constant, and ended
abbrev pub NoConstant : ModuleRule → ℕ → List ℕ → Type 0
NoConstant r left bytes =
    OtherByte (λ b. (b ≡ 0x41) ⊎ (b ≡ 0x42)) r left bytes ⊎ (Begins 0x41 (NoNumber (Signed 32) r left) bytes ⊎ Begins 0x42 (NoNumber (Signed 64) r left) bytes)

abbrev pub Constant : Instr → List ℕ → Type 0
Constant i bytes = Instruction i bytes × IsConstant i

abbrev pub NoGlobal : ModuleRule → ℕ → List ℕ → Type 0
NoGlobal = InTurn NoType Type_of_value (λ _. InTurn (OtherByte (λ b. (m : Bool) × (b ≡ mutable_byte m))) (λ m bytes. bytes ≡ mutable_byte m ∷ [])
    (λ _. InTurn NoConstant Constant (λ _. OtherByte (λ b. b ≡ 0x0B))))

abbrev pub NoData : ModuleRule → ℕ → List ℕ → Type 0
NoData = InTurn NoIndex Index (λ _. Behind 0x41 (InTurn (NoNumber (Signed 32)) (Signed 32) (λ _. Behind 0x0B NoText)))

-- `Limit`: a number of locals begins here that are more than a function may declare, together with those before
abbrev pub ManyLocals : ℕ → ModuleRule → ℕ → List ℕ → Type 0
ManyLocals before r left bytes =
    (r ≡ rule.Limit) × (left ≡ length bytes) × (n : ℕ) × (front : List ℕ) × (back : List ℕ) × (bytes ≡ front ++ back) × Index n front × (most_locals < before + n)

-- the number of locals of a run fails, or their type, behind so many locals
abbrev pub NoLocals : ℕ → ModuleRule → ℕ → List ℕ → Type 0
NoLocals before r left bytes =
    ManyLocals before r left bytes ⊎ InTurn NoIndex Index (λ n r left back. (before + n ≤ most_locals) × NoType r left back) r left bytes

-- the number of runs fails, or after fewer runs than it says one fails
abbrev pub NoLocalRuns : ModuleRule → ℕ → List ℕ → Type 0
NoLocalRuns = InTurn NoIndex Index (λ n r left bytes.
    (runs : List LocalRun) × (length runs < n) × (count_of_locals runs ≤ most_locals) × Joined (Each Locals runs) (NoLocals (count_of_locals runs) r left) bytes)

-- ---- instructions and code

abbrev pub IsOpcode : ℕ → Type 0
IsOpcode b = (i : Instr) × (b ≡ opcode_of i)

abbrev pub IsResult : ℕ → Type 0
IsResult b = (t : Option ValType) × (b ≡ result_byte t)

-- what stands behind the opcode of such an instruction fails
abbrev pub NoImmediate : Instr → ModuleRule → ℕ → List ℕ → Type 0
NoImmediate (instr.Block t) r left bytes = OtherByte IsResult r left bytes
NoImmediate (instr.Loop t) r left bytes = OtherByte IsResult r left bytes
NoImmediate (instr.If t) r left bytes = OtherByte IsResult r left bytes
NoImmediate (instr.Br n) r left bytes = NoIndex r left bytes
NoImmediate (instr.BrIf n) r left bytes = NoIndex r left bytes
NoImmediate (instr.BrTable table) r left bytes = InTurn (NoVector Index NoIndex) (Vector Index) (λ _. NoIndex) r left bytes
NoImmediate (instr.Call n) r left bytes = NoIndex r left bytes
NoImmediate (instr.LocalGet n) r left bytes = NoIndex r left bytes
NoImmediate (instr.LocalSet n) r left bytes = NoIndex r left bytes
NoImmediate (instr.LocalTee n) r left bytes = NoIndex r left bytes
NoImmediate (instr.GlobalGet n) r left bytes = NoIndex r left bytes
NoImmediate (instr.GlobalSet n) r left bytes = NoIndex r left bytes
NoImmediate (instr.Load op place) r left bytes = InTurn NoIndex Index (λ _. NoIndex) r left bytes
NoImmediate (instr.Store op place) r left bytes = InTurn NoIndex Index (λ _. NoIndex) r left bytes
NoImmediate instr.MemorySize r left bytes = OtherByte (λ b. b ≡ 0x00) r left bytes
NoImmediate (instr.I32Const z) r left bytes = NoNumber (Signed 32) r left bytes
NoImmediate (instr.I64Const z) r left bytes = NoNumber (Signed 64) r left bytes
NoImmediate _ r left bytes = ⊥

-- no opcode, or the opcode of an instruction and then what can't stand behind it
abbrev pub NoInstruction : ModuleRule → ℕ → List ℕ → Type 0
NoInstruction r left bytes = OtherByte IsOpcode r left bytes ⊎ ((i : Instr) × Begins (opcode_of i) (NoImmediate i r left) bytes)

-- `Opcode`: an `else` stands outside the first arm of an `if`
abbrev pub StrayElse : List Bool → ModuleRule → ℕ → List ℕ → Type 0
StrayElse arms r left bytes = (r ≡ rule.Opcode) × (left ≡ length bytes) × Begins 0x05 (λ _. after_instruction arms instr.Else ≡ None) bytes

-- a sequence is opened, by `block`, `loop` or `if`, inside as many as may be open
abbrev pub IsTooDeep : List Bool → List ℕ → Type 0
IsTooDeep arms [] = ⊥
IsTooDeep arms (b ∷ bytes) = (most_open < length arms) × ((b ≡ 0x02) ⊎ ((b ≡ 0x03) ⊎ (b ≡ 0x04)))

-- `Limit`: sequences stand too deep inside one another
abbrev pub TooDeep : List Bool → ModuleRule → ℕ → List ℕ → Type 0
TooDeep arms r left bytes = (r ≡ rule.Limit) × (left ≡ length bytes) × IsTooDeep arms bytes

-- after instructions that don't end the function, one fails
abbrev pub NoExpression : ModuleRule → ℕ → List ℕ → Type 0
NoExpression r left bytes =
    (code : List Instr) × (arms : List Bool) × IsOpen code arms × (0 < length arms)
    × Joined (Each Instruction code) (λ back. TooDeep arms r left back ⊎ ((IsTooDeep arms back → ⊥) × (NoInstruction r left back ⊎ StrayElse arms r left back))) bytes

abbrev pub BodyContents : FuncBody → List ℕ → Type 0
BodyContents body = Joined (LocalRuns body.locals) (Expression body.code)

abbrev pub NoBody : ModuleRule → ℕ → List ℕ → Type 0
NoBody = NoneSized BodyContents (InTurn NoLocalRuns LocalRuns (λ _. NoExpression))

-- ---- sections and modules

-- A kind of section has this id: Q of what its contents are, of what spells them, and of what fails of them.
abbrev pub OfKind : ((A : Type 0) → (A → List ℕ → Type 0) → (ModuleRule → ℕ → List ℕ → Type 0) → Type 0) → ℕ → Type 0
OfKind Q id =
    ((id ≡ 0) × Q Custom Custom_contents NoName)
    ⊎ (((id ≡ 1) × Q (List FuncType) (Vector Type_of_function) (NoVector Type_of_function NoFunctionType))
    ⊎ (((id ≡ 2) × Q (List Import) (Vector Imported) (NoVector Imported NoImport))
    ⊎ (((id ≡ 3) × Q (List ℕ) (Vector Index) (NoVector Index NoIndex))
    ⊎ (((id ≡ 5) × Q (List Limits) (Vector Memory) (NoVector Memory NoMemory))
    ⊎ (((id ≡ 6) × Q (List GlobalVar) (Vector Global) (NoVector Global NoGlobal))
    ⊎ (((id ≡ 7) × Q (List ExportEntry) (Vector Exported) (NoVector Exported NoExport))
    ⊎ (((id ≡ 10) × Q (List FuncBody) (Vector Body) (NoVector Body NoBody))
    ⊎ (((id ≡ 11) × Q (List Segment) (Vector Data) (NoVector Data NoData))))))))))

-- contents that a section with this id may have
abbrev pub Holds : ℕ → List ℕ → Type 0
Holds id contents = OfKind (λ A P F. (x : A) × P x contents) id

-- the size and the contents behind this id fail
abbrev pub NoContents : ℕ → ModuleRule → ℕ → List ℕ → Type 0
NoContents id r left bytes = OfKind (λ A P F. NoneSized P F r left bytes) id

abbrev pub AllHold : List Raw → Type 0
AllHold [] = Unit {0}
AllHold (raw ∷ raws) = Holds raw.id raw.contents × AllHold raws

-- the id of the last section that isn't a custom one, or else before
abbrev pub last_id : ℕ → List Raw → ℕ
last_id before [] = before
last_id before (raw ∷ raws) = if raw.id == 0 then last_id before raws else last_id raw.id raws

-- an id that may come next
abbrev pub MayFollow : ℕ → ℕ → Type 0
MayFollow before id = (id ≡ 0) ⊎ ((before < id) × Contains ids id)

-- `Section`: another id stands where one that may come next is due; or behind one the size or the contents fail
abbrev pub NoSection : ℕ → ModuleRule → ℕ → List ℕ → Type 0
NoSection before r left [] = ⊥
NoSection before r left (id ∷ bytes) =
    ((r ≡ rule.Section) × (left ≡ length (id ∷ bytes)) × (MayFollow before id → ⊥)) ⊎ (MayFollow before id × NoContents id r left bytes)

-- the next byte isn't the one that is due, or is missing
abbrev pub Differs : List ℕ → List ℕ → Type 0
Differs bytes [] = ⊥
Differs [] (due ∷ dues) = Unit {0}
Differs (b ∷ bytes) (due ∷ dues) = b ≡ due → ⊥

-- `Header`: the byte isn't the header's
abbrev pub NoHeader : ModuleRule → ℕ → List ℕ → Type 0
NoHeader r left bytes =
    (r ≡ rule.Header) × (front : List ℕ) × (back : List ℕ) × (dues : List ℕ) × (bytes ≡ front ++ back) × (header ≡ front ++ dues) × (left ≡ length back) × Differs back dues

-- after the header, and sections in order that hold what they may, the next section fails
abbrev pub NoNext : ModuleRule → ℕ → List ℕ → Type 0
NoNext r left bytes =
    (raws : List Raw) × InOrder 0 raws × AllHold raws × Joined (Is header) (Joined (Each RawSection raws) (NoSection (last_id 0 raws) r left)) bytes

-- `Size`, at the end: codes and functions differ in number
abbrev pub CountsDiffer : ModuleRule → ℕ → List ℕ → Type 0
CountsDiffer r left bytes =
    (r ≡ rule.Size) × (left ≡ 0) × (raws : List Raw) × (functions : List ℕ) × (codes : List FuncBody)
    × InOrder 0 raws × Joined (Is header) (Each RawSection raws) bytes × Lists Index 3 raws functions × Lists Body 10 raws codes × (length functions ≢ length codes)

-- the rule fails at the byte from which so many are left
abbrev pub NoModule : ModuleRule → ℕ → List ℕ → Type 0
NoModule r left bytes = NoHeader r left bytes ⊎ (NoNext r left bytes ⊎ CountsDiffer r left bytes)

-- the rule fails at the byte with this number, counted from 0
abbrev pub FailsAt : ModuleRule → ℕ → List ℕ → Type 0
FailsAt r offset bytes = (left : ℕ) × (offset + left ≡ length bytes) × NoModule r left bytes

-- a module isn't read for want of memory, or because a rule fails at the offset
abbrev pub IsCause : ModuleFail → List ℕ → Type 0
IsCause fail.NoMemory bytes = Unit {0}
IsCause (fail.Refused refused) bytes = FailsAt refused.rule refused.offset bytes
