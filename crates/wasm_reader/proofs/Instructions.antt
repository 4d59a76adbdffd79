-- Instructions: an opcode, by which a sample of the instruction is found, and what stands behind it.
use Rattle.std.proofs.Common.{◌≡◌, ℕ, Bool, true, false, cond, eqb, List, [], ◌∷◌, Option, Some, None, Ok, Err, refl, sym, ◌≤◌, ◌<◌, arith, pos, ◌++◌, length, ap, ◌∙◌, inl, inr}
use Rattle.std.specs.Prelude.{find, ◌≢◌}
use Rattle.std.proofs.lemmas.Bool.{eqb-true, eqb-false}
use Rattle.wasm_tree.specs.declared.module.ValType.TheVariants.{I32, I64}
use Rattle.wasm_tree.specs.declared.op.LoadOp.{LoadOp}
use Rattle.wasm_tree.specs.declared.op.LoadOp.TheVariants as load
use Rattle.wasm_tree.specs.declared.op.StoreOp.{StoreOp}
use Rattle.wasm_tree.specs.declared.op.StoreOp.TheVariants as store
use Rattle.wasm_tree.specs.declared.op.CompareOp.TheVariants as compare
use Rattle.wasm_tree.specs.declared.op.UnaryOp.TheVariants as unary
use Rattle.wasm_tree.specs.declared.op.BinaryOp.TheVariants as binary
use Rattle.wasm_tree.specs.declared.op.ConvertOp.TheVariants as convert
use Rattle.wasm_tree.specs.declared.instr.Instr.{Instr}
use Rattle.wasm_tree.specs.declared.instr.Instr.TheVariants as instr
use Rattle.wasm_tree.specs.Opcode.{opcode_of, load_opcode, store_opcode}
use Rattle.wasm_tree.specs.declared.failure.ModuleRule.TheVariants as rule
use Rattle.wasm_reader.specs.declared.fault.ReadFail.{ReadFail}
use Rattle.wasm_reader.specs.Samples.{no_place, samples, sample_of, IsAlone}
use Rattle.wasm_reader.specs.Reading.{at, Fails, immediates_at, like_at, behind_at, byte_at, type_at, block_type_at, instruction_at}
use Rattle.wasm_tree.specs.declared.failure.ModuleRule.{ModuleRule}
use Rattle.std.proofs.lemmas.Bool.Decides.{nat_tests}
use Rattle.wasm_tree.specs.declared.module.ValType.{ValType}
use Rattle.wasm_tree.specs.Spelled.{Index, type_byte, Signed, MemoryArgument, result_byte, Immediates, Instruction}
use Rattle.wasm_reader.specs.Fault.{OtherByte, NoType, NoImmediate, IsResult as IsResultByte, IsOpcode, NoInstruction}
use Rattle.wasm_reader.proofs.Ends.{with_value, with_fault, step, by_test}
use Rattle.wasm_reader.proofs.Readers.{ReadEnds, Reads, Mapped, begins_with, broken-as, ends-as, byte-ends, other, ends-begun, map-reads, pure-reads, ended-reads}
use Rattle.wasm_reader.proofs.NumberLaws.{index-reads, signed-reads}
use Rattle.wasm_reader.proofs.Records.{type-reads, Labels, labels-reads, place-reads}

-- what is found passes
found_passes : {A : Type 0} (p : A → Bool) (xs : List A) (x : A) → find p xs ≡ Some x → p x ≡ true
found_passes p [] x e = absurd cc
found_passes {A} p (y ∷ ys) x e = by (found_passes p ys x) (p y) refl e where
  by : (find p ys ≡ Some x → p x ≡ true) → (b : Bool) → p y ≡ b → cond b (Some y) (find p ys) ≡ Some x → p x ≡ true
  by others true is e = cc
  by others false is e = others e

pub sample-opcode : (byte : ℕ) (i : Instr) → sample_of byte ≡ Some i → opcode_of i ≡ byte
unfolding sample_of
sample-opcode byte i e = eqb-true (opcode_of i) byte (found_passes (λ j. eqb (opcode_of j) byte) samples i e)

-- the instruction with a 0 for each immediate
abbrev pub sample_like : Instr → Instr
sample_like (instr.Block _) = instr.Block None
sample_like (instr.Loop _) = instr.Loop None
sample_like (instr.If _) = instr.If None
sample_like (instr.Br _) = instr.Br 0
sample_like (instr.BrIf _) = instr.BrIf 0
sample_like (instr.BrTable _) = instr.BrTable (record { labels = []; other = 0 })
sample_like (instr.Call _) = instr.Call 0
sample_like (instr.LocalGet _) = instr.LocalGet 0
sample_like (instr.LocalSet _) = instr.LocalSet 0
sample_like (instr.LocalTee _) = instr.LocalTee 0
sample_like (instr.GlobalGet _) = instr.GlobalGet 0
sample_like (instr.GlobalSet _) = instr.GlobalSet 0
sample_like (instr.I32Const _) = instr.I32Const (pos 0)
sample_like (instr.I64Const _) = instr.I64Const (pos 0)
sample_like (instr.Load op _) = instr.Load op no_place
sample_like (instr.Store op _) = instr.Store op no_place
sample_like i = i

pub sample-of : (i : Instr) → sample_of (opcode_of i) ≡ Some (sample_like i)
unfolding sample_of samples
sample-of (instr.Load load.I32 _) = refl
sample-of (instr.Store store.I32 _) = refl
sample-of (instr.Test I32) = refl
sample-of (instr.Compare I32 compare.Equal) = refl
sample-of (instr.Compare I64 compare.Equal) = refl
sample-of (instr.Unary I32 unary.LeadingZeros) = refl
sample-of (instr.Unary I64 unary.LeadingZeros) = refl
sample-of (instr.Binary I32 binary.Add) = refl
sample-of (instr.Binary I64 binary.Add) = refl
sample-of (instr.Convert convert.WrapI64) = refl
sample-of i = refl

-- ---- what is read behind an opcode

pub behind-ok : (start opcode : ℕ) (like i : Instr) (bytes rest : List ℕ) → sample_of opcode ≡ Some like → immediates_at like bytes ≡ Ok (i, rest) → behind_at start opcode bytes ≡ Ok (i, rest)
unfolding behind_at
behind-ok start opcode like i bytes rest e h = rw e h

pub behind-fails : (fail : ReadFail) (start opcode : ℕ) (like : Instr) (bytes : List ℕ) → sample_of opcode ≡ Some like → Fails fail (immediates_at like bytes) → Fails fail (behind_at start opcode bytes)
unfolding behind_at
behind-fails fail start opcode like bytes e h = rw e h

-- an opcode alone
pub behind-alone : (start : ℕ) (i : Instr) (bytes : List ℕ) → IsAlone i → behind_at start (opcode_of i) bytes ≡ Ok (i, bytes)
behind-alone start i bytes h = behind-ok start (opcode_of i) (sample_like i) i bytes bytes (sample-of i) (itself i h) where
  itself : (i : Instr) → IsAlone i → immediates_at (sample_like i) bytes ≡ Ok (i, bytes)
  itself (instr.Block _) h = absurd h
  itself i h = first_of (cc, search h)

-- no opcode
pub behind-none : (start opcode : ℕ) (bytes : List ℕ) → ((i : Instr) → opcode_of i ≡ opcode → ⊥) → behind_at start opcode bytes ≡ Err (at rule.Opcode start)
unfolding behind_at
behind-none start opcode bytes none = by (sample_of opcode) refl where
  by : (o : Option Instr) → sample_of opcode ≡ o → like_at start o bytes ≡ Err (at rule.Opcode start)
  by None e = refl
  by (Some i) e = absurd (none i (sample-opcode opcode i e))

pub behind-load : (start opcode : ℕ) (op : LoadOp) (bytes : List ℕ) → load_opcode op ≡ opcode → behind_at start opcode bytes ≡ immediates_at (instr.Load op no_place) bytes
unfolding behind_at
behind-load start opcode op bytes e = rw (← e, sample-of (instr.Load op no_place)) refl

pub behind-store : (start opcode : ℕ) (op : StoreOp) (bytes : List ℕ) → store_opcode op ≡ opcode → behind_at start opcode bytes ≡ immediates_at (instr.Store op no_place) bytes
unfolding behind_at
behind-store start opcode op bytes e = rw (← e, sample-of (instr.Store op no_place)) refl

-- no instruction of memory and no constant
pub not_memory : (opcode : ℕ) → ((i : Instr) → IsAlone i → opcode_of i ≡ opcode → ⊥) → ((op : LoadOp) → load_opcode op ≡ opcode → ⊥) → ((op : StoreOp) → store_opcode op ≡ opcode → ⊥) → 0x28 ≤ opcode → (opcode ≡ 0x3F → ⊥) → (opcode ≡ 0x41 → ⊥) → (opcode ≡ 0x42 → ⊥)
    → (i : Instr) → opcode_of i ≡ opcode → ⊥
not_memory opcode alone load store high a b c (instr.Load op place) e = load op e
not_memory opcode alone load store high a b c (instr.Store op place) e = store op e
not_memory opcode alone load store high a b c instr.MemorySize e = a (sym e)
not_memory opcode alone load store high a b c (instr.I32Const _) e = b (sym e)
not_memory opcode alone load store high a b c (instr.I64Const _) e = c (sym e)
not_memory opcode alone load store high a b c i e = first_of (omega arith, search (alone, e, tt))

-- no instruction of control, and none with the number of a variable
abbrev pub IsNoControl : ℕ → Type 0
IsNoControl b =
    (b ≢ 0x02) × (b ≢ 0x03) × (b ≢ 0x04) × (b ≢ 0x0C) × (b ≢ 0x0D) × (b ≢ 0x0E) × (b ≢ 0x10) × (b ≢ 0x20) × (b ≢ 0x21) × (b ≢ 0x22) × (b ≢ 0x23) × (b ≢ 0x24)

pub not_control : (opcode : ℕ) → ((i : Instr) → IsAlone i → opcode_of i ≡ opcode → ⊥) → opcode < 0x28 → IsNoControl opcode → (i : Instr) → opcode_of i ≡ opcode → ⊥
not_control opcode alone low none (instr.Load op place) e = absurd (grind (arith, nat_tests))
not_control opcode alone low none (instr.Store op place) e = absurd (grind (arith, nat_tests))
not_control opcode alone low none i e = first_of (omega arith, search (alone, e, tt))

-- the result of a sequence
abbrev IsResult : Option ValType → List ℕ → Type 0
IsResult t bytes = bytes ≡ result_byte t ∷ []

block_type-reads : Reads IsResult (OtherByte IsResultByte) block_type_at
unfolding block_type_at byte_at
block_type-reads = record {
  ends = λ bytes.
      step (byte_at bytes) (byte-ends IsResultByte bytes) (λ x b. b) (λ y w.
      by_test (eqb y.0 0x40) (λ p. with_value (None, y.1) (record { front = 0x40 ∷ []; whole = w ∙ ap (λ (b : ℕ). b ∷ y.1) (eqb-true y.0 0x40 p); spelled = refl })) (λ p.
      step (type_at bytes) (type-reads.ends bytes) (λ x b. broken-as b (λ h. wider x.rule x.left (eqb-false y.0 0x40 p) bytes w h))
      (λ t u. with_value (Some t.0, t.1) (record { front = u.front; whole = u.whole; spelled = u.spelled }))));
  again = again;
} where
  none : (b c : ℕ) → b ≡ c → (b ≡ 0x40 → ⊥) → ((t : ValType) × (c ≡ type_byte t) → ⊥) → IsResultByte c → ⊥
  none b c w apart o (None, e) = apart (w ∙ e)
  none b c w apart o (Some t, e) = o (t, e)

  wider : {b : ℕ} {rest : List ℕ} (r : ModuleRule) (left : ℕ) → (b ≡ 0x40 → ⊥) → (bytes : List ℕ) → bytes ≡ b ∷ rest → NoType r left bytes → OtherByte IsResultByte r left bytes
  wider r left apart [] w o = o
  wider {b} r left apart (c ∷ bytes) w o = (o.0, o.1, none b c (cc) apart o.2)

  again : (t : Option ValType) (front rest : List ℕ) → IsResult t front → block_type_at (front ++ rest) ≡ Ok (t, rest)
  again None front rest h = rw h refl
  again (Some I32) front rest h = rw (h, type-reads.again I32 (0x7F ∷ []) rest refl) refl
  again (Some I64) front rest h = rw (h, type-reads.again I64 (0x7E ∷ []) rest refl) refl

-- what stands behind the opcode of an instruction like this one
abbrev Behind : Instr → Instr → List ℕ → Type 0
Behind (instr.Block _) i bytes = Mapped instr.Block IsResult i bytes
Behind (instr.Loop _) i bytes = Mapped instr.Loop IsResult i bytes
Behind (instr.If _) i bytes = Mapped instr.If IsResult i bytes
Behind (instr.Br _) i bytes = Mapped instr.Br Index i bytes
Behind (instr.BrIf _) i bytes = Mapped instr.BrIf Index i bytes
Behind (instr.BrTable _) i bytes = Mapped instr.BrTable Labels i bytes
Behind (instr.Call _) i bytes = Mapped instr.Call Index i bytes
Behind (instr.LocalGet _) i bytes = Mapped instr.LocalGet Index i bytes
Behind (instr.LocalSet _) i bytes = Mapped instr.LocalSet Index i bytes
Behind (instr.LocalTee _) i bytes = Mapped instr.LocalTee Index i bytes
Behind (instr.GlobalGet _) i bytes = Mapped instr.GlobalGet Index i bytes
Behind (instr.GlobalSet _) i bytes = Mapped instr.GlobalSet Index i bytes
Behind (instr.I32Const _) i bytes = Mapped instr.I32Const (Signed 32) i bytes
Behind (instr.I64Const _) i bytes = Mapped instr.I64Const (Signed 64) i bytes
Behind (instr.Load op _) i bytes = Mapped (instr.Load op) MemoryArgument i bytes
Behind (instr.Store op _) i bytes = Mapped (instr.Store op) MemoryArgument i bytes
Behind instr.MemorySize i bytes = (i ≡ instr.MemorySize) × (bytes ≡ 0x00 ∷ [])
Behind like i bytes = (i ≡ like) × (bytes ≡ [])

immediates-reads : (like : Instr) → Reads (Behind like) (NoImmediate like) (immediates_at like)
immediates-reads (instr.Block _) = map-reads instr.Block block_type-reads
immediates-reads (instr.Loop _) = map-reads instr.Loop block_type-reads
immediates-reads (instr.If _) = map-reads instr.If block_type-reads
immediates-reads (instr.Br _) = map-reads instr.Br index-reads
immediates-reads (instr.BrIf _) = map-reads instr.BrIf index-reads
immediates-reads (instr.Call _) = map-reads instr.Call index-reads
immediates-reads (instr.LocalGet _) = map-reads instr.LocalGet index-reads
immediates-reads (instr.LocalSet _) = map-reads instr.LocalSet index-reads
immediates-reads (instr.LocalTee _) = map-reads instr.LocalTee index-reads
immediates-reads (instr.GlobalGet _) = map-reads instr.GlobalGet index-reads
immediates-reads (instr.GlobalSet _) = map-reads instr.GlobalSet index-reads
immediates-reads (instr.BrTable _) = map-reads instr.BrTable labels-reads
immediates-reads (instr.Load op _) = map-reads (instr.Load op) place-reads
immediates-reads (instr.Store op _) = map-reads (instr.Store op) place-reads
immediates-reads instr.MemorySize = ended-reads 0x00 instr.MemorySize
immediates-reads (instr.I32Const _) = map-reads instr.I32Const (signed-reads 32 (omega arith))
immediates-reads (instr.I64Const _) = map-reads instr.I64Const (signed-reads 64 (omega arith))
immediates-reads like = pure-reads like

to-immediates : (like i : Instr) (bytes : List ℕ) → Behind like i bytes → (opcode_of i ≡ opcode_of like) × Immediates i bytes
to-immediates (instr.Block _) i bytes h = rw h.1 (refl, h.2)
to-immediates (instr.BrTable _) i bytes h = rw h.1 (refl, h.2)
to-immediates (instr.Load op _) i bytes h = rw h.1 (refl, h.2)
to-immediates (instr.Store op _) i bytes h = rw h.1 (refl, h.2)
to-immediates like i bytes h = first_of (search h, grind (arith, h))

of-immediates : (i : Instr) (bytes : List ℕ) → Immediates i bytes → Behind (sample_like i) i bytes
of-immediates (instr.Block x) bytes h = (x, refl, h)
of-immediates i bytes h = first_of (search h, grind (arith, h))

no_opcode : (b : ℕ) → sample_of b ≡ None → IsOpcode b → ⊥
no_opcode b e (i, is) = absurd (cc (sample-of i, ap sample_of is))

pub instruction-reads : Reads Instruction NoInstruction instruction_at
unfolding instruction_at behind_at byte_at
instruction-reads = record { ends = λ bytes. step (byte_at bytes) (byte-ends IsOpcode bytes) (λ x b. broken-as b (λ h. inl h)) (λ y w. by w (sample_of y.0) refl); again = λ i front rest h. rw (begins_with h, sample-of i) ((immediates-reads (sample_like i)).again i h.back rest (of-immediates i h.back h.second)) } where
  by : {bytes : List ℕ} {b : ℕ} {rest : List ℕ} → bytes ≡ b ∷ rest → (o : Option Instr) → sample_of b ≡ o → ReadEnds Instruction NoInstruction bytes (like_at (length bytes) o rest)
  by {bytes} {b} w None e = with_fault (at rule.Opcode (length bytes)) (broken-as (other w (no_opcode b e)) (λ h. inl h))
  by {bytes} {b} {rest} w (Some like) e =
      ends-as (ends-begun (opcode_of like) w (sym (sample-opcode b like e)) ((immediates-reads like).ends rest))
      (λ i l h. let p = to-immediates like i h.back h.second in record { front = h.front; back = h.back; whole = h.whole; first = h.first ∙ ap (λ (n : ℕ). n ∷ []) (sym p.0); second = p.1 })
      (λ r left l h. inr (like, h))
