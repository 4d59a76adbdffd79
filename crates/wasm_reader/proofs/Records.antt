-- Types, limits, constants and what is imported or exported, by their first byte, and the records of a module, whose
-- fields stand one after another.
use Rattle.std.proofs.Common.{◌≡◌, ℕ, Bool, true, false, cond, eqb, List, [], ◌∷◌, length, Option, Some, None, Ok, Err, refl, ap, ◌∙◌, arith, ◌⊎◌, inl, inr}
use Rattle.wasm_tree.specs.declared.failure.ModuleRule.{ModuleRule}
use Rattle.wasm_tree.specs.declared.failure.ModuleRule.TheVariants as rule
use Rattle.wasm_tree.specs.declared.module.ValType.{ValType}
use Rattle.wasm_tree.specs.declared.module.ValType.TheVariants.{I32, I64}
use Rattle.wasm_tree.specs.declared.module.Limits.{Limits}
use Rattle.wasm_tree.specs.declared.module.ImportKind.{ImportKind}
use Rattle.wasm_tree.specs.declared.module.ImportKind.TheVariants as imported
use Rattle.wasm_tree.specs.declared.module.ExportKind.{ExportKind}
use Rattle.wasm_tree.specs.declared.module.ExportKind.TheVariants as exported
use Rattle.wasm_tree.specs.declared.instr.Instr.{Instr}
use Rattle.wasm_tree.specs.declared.instr.Instr.TheVariants as instr
use Rattle.wasm_tree.specs.Spelled.{Begins, Index, Signed, Type_of_value, Memory, Import_kind, Export_kind, type_byte, mutable_byte, Joined, Vector, Type_of_function, MemoryArgument, Imported, Exported, Data, Global}
use Rattle.wasm_reader.specs.Fault.{OtherByte, NoType, NoMemory, NoImportKind, NoExportKind, Constant, NoConstant, InTurn, NoGlobal, NoIndex, NoVector, NoFunctionType, NoImport, NoExport, NoData}
use Rattle.wasm_reader.specs.Reading.{◌>>=◌, at, byte_at, type_at, memory_at, import_kind_at, export_kind_at, mutable_at, constant_at, function_type_at, import_at, export_at, global_at, segment_at, place_at, labels_at}
use Rattle.wasm_reader.proofs.Readers.{Reads, Then, Mapped, begins_with, behind, then-reads, map-reads, as-reads, pure-reads, two-reads, ended-reads, field, last, due, Any, from_first}
use Rattle.wasm_reader.proofs.NumberLaws.{index-reads, signed-reads}
use Rattle.wasm_tree.specs.declared.module.GlobalVar.{GlobalVar}
use Rattle.wasm_tree.specs.declared.instr.LabelTable.{LabelTable}
use Rattle.wasm_reader.proofs.Parts.{vector-reads, text-reads, name-reads}

-- a value that a byte alone tells
byte_of-reads : {C : Type 0} (x y : C) (byte : C → ℕ) → (byte y ≡ byte x → ⊥) → ((c : C) → (c ≡ x) ⊎ (c ≡ y))
    → Reads (λ c bytes. bytes ≡ byte c ∷ []) (OtherByte (λ b. (c : C) × (b ≡ byte c))) (λ bytes. byte_at bytes >>= λ b. cond (eqb b.0 (byte x)) (Ok (x, b.1)) (cond (eqb b.0 (byte y)) (Ok (y, b.1)) (Err (at rule.Opcode (length bytes)))))
byte_of-reads {C} x y byte apart known = as-reads (two-reads (byte x) (byte y) apart (pure-reads x) (pure-reads y)) to of alone where
  Only : C → C → List ℕ → Type 0
  Only z c bytes = (c ≡ z) × (bytes ≡ [])

  to : (c : C) (bytes : List ℕ) → Begins (byte x) (Only x c) bytes ⊎ Begins (byte y) (Only y c) bytes → bytes ≡ byte c ∷ []
  to c bytes (inl h) = rw h.second.0 (begins_with h ∙ ap (λ (l : List ℕ). byte x ∷ l) h.second.1)
  to c bytes (inr h) = rw h.second.0 (begins_with h ∙ ap (λ (l : List ℕ). byte y ∷ l) h.second.1)

  of : (c : C) (bytes : List ℕ) → bytes ≡ byte c ∷ [] → Begins (byte x) (Only x c) bytes ⊎ Begins (byte y) (Only y c) bytes
  of c bytes e =
      elim (known c) [
        | inl is ↦ inl (record { front = byte x ∷ []; back = []; whole = e ∙ ap (λ (z : C). byte z ∷ []) is; first = refl; second = (is, refl) })
        | inr is ↦ inr (record { front = byte y ∷ []; back = []; whole = e ∙ ap (λ (z : C). byte z ∷ []) is; first = refl; second = (is, refl) })
      ]

  which : (b : ℕ) → (c : C) × (b ≡ byte c) → (b ≡ byte x) ⊎ (b ≡ byte y)
  which b (c, e) = elim (known c) [ inl is ↦ inl (e ∙ ap byte is) | inr is ↦ inr (e ∙ ap byte is) ]

  Never : ℕ → List ℕ → Type 0
  Never b = Begins b (λ bytes. ⊥)

  alone : (r : ModuleRule) (left : ℕ) (bytes : List ℕ) → OtherByte (λ b. (b ≡ byte x) ⊎ (b ≡ byte y)) r left bytes ⊎ (Never (byte x) bytes ⊎ Never (byte y) bytes) → OtherByte (λ b. (c : C) × (b ≡ byte c)) r left bytes
  alone r left [] (inl h) = h
  alone r left (b ∷ bytes) (inl h) = (h.0, h.1, λ p. h.2 (which b p))
  alone r left bytes (inr (inl h)) = absurd h.second
  alone r left bytes (inr (inr h)) = absurd h.second

pub type-reads : Reads Type_of_value NoType type_at
unfolding type_at
type-reads = byte_of-reads I32 I64 type_byte (λ e. absurd (omega arith)) known where
  known : (t : ValType) → (t ≡ I32) ⊎ (t ≡ I64)
  known I32 = inl refl
  known I64 = inr refl

pub mutable-reads : Reads (λ m bytes. bytes ≡ mutable_byte m ∷ []) (OtherByte (λ b. (m : Bool) × (b ≡ mutable_byte m))) mutable_at
unfolding mutable_at
mutable-reads = byte_of-reads false true mutable_byte (λ e. absurd (omega arith)) known where
  known : (m : Bool) → (m ≡ false) ⊎ (m ≡ true)
  known false = inl refl
  known true = inr refl

-- limits without and with a most
pub memory-reads : Reads Memory NoMemory memory_at
unfolding memory_at
memory-reads =
    as-reads (two-reads 0x00 0x01 (λ e. absurd (omega arith)) (map-reads (λ least. made least None) index-reads) (then-reads index-reads (λ whole least. map-reads (λ most. made least (Some most)) index-reads))) to (λ x bytes h. of x.min x.max bytes h)
    (λ r left bytes h. h) where
      made : ℕ → Option ℕ → Limits
      made least most = record { min = least; max = most }

      Open : Limits → List ℕ → Type 0
      Open = Mapped (λ least. made least None) Index

      Closed : Limits → List ℕ → Type 0
      Closed = Then Index (λ least. Mapped (λ most. made least (Some most)) Index)

      to : (x : Limits) (bytes : List ℕ) → Begins 0x00 (Open x) bytes ⊎ Begins 0x01 (Closed x) bytes → Memory x bytes
      to x bytes (inl h) = rw h.second.1 (behind h h.second.2)
      to x bytes (inr h) = let j = h.second.1 in rw j.second.1 (behind h (behind j j.second.2))

      of : (least : ℕ) (most : Option ℕ) (bytes : List ℕ) → Memory (made least most) bytes → Begins 0x00 (Open (made least most)) bytes ⊎ Begins 0x01 (Closed (made least most)) bytes
      of least None bytes h = inl (behind h (least, refl, h.second))
      of least (Some most) bytes h = inr (behind h (least, behind h.second (most, refl, h.second.second)))

pub import_kind-reads : Reads Import_kind NoImportKind import_kind_at
unfolding import_kind_at
import_kind-reads = as-reads (two-reads 0x00 0x02 (λ e. absurd (omega arith)) (map-reads imported.Function index-reads) (map-reads imported.Memory memory-reads)) to of (λ r left bytes h. h) where
  to : (x : ImportKind) (bytes : List ℕ) → Begins 0x00 (Mapped imported.Function Index x) bytes ⊎ Begins 0x02 (Mapped imported.Memory Memory x) bytes → Import_kind x bytes
  to x bytes (inl h) = rw h.second.1 (behind h h.second.2)
  to x bytes (inr h) = rw h.second.1 (behind h h.second.2)

  of : (x : ImportKind) (bytes : List ℕ) → Import_kind x bytes → Begins 0x00 (Mapped imported.Function Index x) bytes ⊎ Begins 0x02 (Mapped imported.Memory Memory x) bytes
  of (imported.Function n) bytes h = inl (behind h (n, refl, h.second))
  of (imported.Memory m) bytes h = inr (behind h (m, refl, h.second))

pub export_kind-reads : Reads Export_kind NoExportKind export_kind_at
unfolding export_kind_at
export_kind-reads = as-reads (two-reads 0x00 0x02 (λ e. absurd (omega arith)) (map-reads exported.Function index-reads) (map-reads exported.Memory index-reads)) to of (λ r left bytes h. h) where
  to : (x : ExportKind) (bytes : List ℕ) → Begins 0x00 (Mapped exported.Function Index x) bytes ⊎ Begins 0x02 (Mapped exported.Memory Index x) bytes → Export_kind x bytes
  to x bytes (inl h) = rw h.second.1 (behind h h.second.2)
  to x bytes (inr h) = rw h.second.1 (behind h h.second.2)

  of : (x : ExportKind) (bytes : List ℕ) → Export_kind x bytes → Begins 0x00 (Mapped exported.Function Index x) bytes ⊎ Begins 0x02 (Mapped exported.Memory Index x) bytes
  of (exported.Function n) bytes h = inl (behind h (n, refl, h.second))
  of (exported.Memory m) bytes h = inr (behind h (m, refl, h.second))

pub constant-reads : Reads Constant NoConstant constant_at
unfolding constant_at
constant-reads = as-reads (two-reads 0x41 0x42 (λ e. absurd (omega arith)) (map-reads instr.I32Const (signed-reads 32 (omega arith))) (map-reads instr.I64Const (signed-reads 64 (omega arith)))) to of (λ r left bytes h. h) where
  to : (x : Instr) (bytes : List ℕ) → Begins 0x41 (Mapped instr.I32Const (Signed 32) x) bytes ⊎ Begins 0x42 (Mapped instr.I64Const (Signed 64) x) bytes → Constant x bytes
  to x bytes (inl h) = rw h.second.1 (behind h h.second.2, tt)
  to x bytes (inr h) = rw h.second.1 (behind h h.second.2, tt)

  of : (x : Instr) (bytes : List ℕ) → Constant x bytes → Begins 0x41 (Mapped instr.I32Const (Signed 32) x) bytes ⊎ Begins 0x42 (Mapped instr.I64Const (Signed 64) x) bytes
  of (instr.I32Const z) bytes h = inl (behind h.0 (z, refl, h.0.second))
  of (instr.I64Const z) bytes h = inr (behind h.0 (z, refl, h.0.second))
  of x bytes h = absurd h.1

pub place-reads : Reads MemoryArgument (InTurn NoIndex Index (λ _. NoIndex)) place_at
unfolding place_at
place-reads = from_first (field (λ p. p.align) index-reads (λ align. last (λ p. p.offset) (λ offset. record { align = align; offset = offset }) index-reads (λ x. (tt, refl)) (λ x. refl) (λ c r. rw (← r.1) refl)))

abbrev pub Labels : LabelTable → List ℕ → Type 0
Labels table = Joined (Vector Index table.labels) (Index table.other)

pub labels-reads : Reads Labels (InTurn (NoVector Index NoIndex) (Vector Index) (λ _. NoIndex)) labels_at
unfolding labels_at
labels-reads = from_first (field (λ t. t.labels) (vector-reads index-reads) (λ labels. last (λ t. t.other) (λ other. record { labels = labels; other = other }) index-reads (λ x. (tt, refl)) (λ x. refl) (λ c r. rw (← r.1) refl)))

pub function_type-reads : Reads Type_of_function NoFunctionType function_type_at
unfolding function_type_at
function_type-reads = from_first (due 0x60 (field (λ t. t.params) (vector-reads type-reads) (λ params. last (λ t. t.results) (λ results. record { params = params; results = results }) (vector-reads type-reads) (λ x. (tt, refl)) (λ x. refl) (λ c r. rw (← r.1) refl))))

pub import-reads : Reads Imported NoImport import_at
unfolding import_at
import-reads =
    from_first (field (λ i. i.«module») name-reads (λ m. field (λ i. i.name) name-reads (λ n. last (λ i. i.kind) (λ kind. record { «module» = m; name = n; kind = kind }) import_kind-reads (λ x. ((tt, refl), refl)) (λ x. refl) (λ c r. rw (← r.0.1, ← r.1) refl))))

pub export-reads : Reads Exported NoExport export_at
unfolding export_at
export-reads = from_first (field (λ e. e.name) name-reads (λ n. last (λ e. e.kind) (λ kind. record { name = n; kind = kind }) export_kind-reads (λ x. (tt, refl)) (λ x. refl) (λ c r. rw (← r.1) refl)))

pub segment-reads : Reads Data NoData segment_at
unfolding segment_at
segment-reads =
    from_first (field (λ s. s.memory) index-reads (λ m. due 0x41 (field (λ s. s.offset) (signed-reads 32 (omega arith)) (λ z. due 0x0B (last (λ s. s.bytes) (λ t. record { memory = m; offset = z; bytes = t }) text-reads (λ x. ((tt, refl), refl)) (λ x. refl) (λ c r. rw (← r.0.1, ← r.1) refl))))))

pub global-reads : Reads Global NoGlobal global_at
unfolding global_at
global-reads =
    as-reads
    (field {R = Any} (λ (g : GlobalVar). g.ty) type-reads (λ t. field (λ g. g.mutable) mutable-reads (λ m. field (λ g. g.value) constant-reads (λ v.
    as-reads (ended-reads 0x0B (made t m v)) (λ g bytes h. rw h.0 ((((tt, refl), refl), refl), h.1)) (λ g bytes h. (rw (← h.0.0.0.1, ← h.0.0.1, ← h.0.1) refl, h.1)) (λ r left bytes h. h)))))
    to of (λ r left bytes h. h) where
      made : ValType → Bool → Instr → GlobalVar
      made t m v = record { ty = t; mutable = m; value = v }

      Fields : GlobalVar → List ℕ → Type 0
      Fields g = Joined (Type_of_value g.ty) (Joined (λ bytes. bytes ≡ mutable_byte g.mutable ∷ []) (Joined (Constant g.value) (λ bytes. bytes ≡ 0x0B ∷ [])))

      to : (g : GlobalVar) (bytes : List ℕ) → Any g × Fields g bytes → Global g bytes
      to g bytes (_, h) =
          let k = h.second.second in
          record { spelled = behind h (behind h.second (record { front = k.front; back = k.back; whole = k.whole; first = k.first.0; second = k.second })); constant = k.first.1 }

      of : (g : GlobalVar) (bytes : List ℕ) → Global g bytes → Any g × Fields g bytes
      of g bytes w =
          let h = w.spelled in
          let k = h.second.second in
          (tt, behind h (behind h.second (record { front = k.front; back = k.back; whole = k.whole; first = (k.first, w.constant); second = k.second })))
