-- What is read of the section is what its bytes spell, and what they spell is read.
use Rattle.std.proofs.Common.{◌≡◌, ℕ, Bool, true, false, cond, eqb, eq-eqb, List, [], ◌∷◌, ◌++◌, Option, Some, None, Ok, refl, sym, ap, subst, ◌∙◌, arith, ◌⊎◌, inl, inr, ℤ}
use Rattle.std.proofs.lemmas.Bool.{eqb-true, ne_eqb}
use Rattle.cm_base.specs.declared.host.Flow.{Flow}
use Rattle.cm_base.specs.declared.host.Flow.TheVariants.{Input, Output}
use Rattle.cm_base.specs.declared.host.Kind.{Kind}
use Rattle.cm_base.specs.declared.host.Kind.TheVariants as kinds
use Rattle.cm_base.specs.declared.host.Scalar.{Scalar}
use Rattle.cm_base.specs.declared.host.Scalar.TheVariants as scalar
use Rattle.cm_base.specs.declared.host.Range.{Range}
use Rattle.wasm_tree.specs.declared.failure.ModuleRule.{ModuleRule}
use Rattle.wasm_tree.specs.declared.interface.Interface.{Interface}
use Rattle.wasm_tree.specs.declared.interface.Interface.TheVariants.{Single, Blocks}
use Rattle.wasm_tree.specs.Spelled.{Is, Begins, Vector, Index}
use Rattle.wasm_tree.specs.Section.{flow_byte, kind_byte, Scalar_kind, Parameter}
use Rattle.wasm_reader.specs.Reading.{Reader, behind_id, choice}
use Rattle.wasm_reader.proofs.Readers.{Reads, ReadEnds, Then, Mapped, begins_with, behind, as-reads, ends-as, ends-begun, then-reads, map-reads, pure-reads, begins-reads, counted-reads, field, last, from_first}
use Rattle.wasm_reader.proofs.NumberLaws.{index-reads, signed-reads}
use Rattle.wasm_reader.proofs.Parts.{vector-reads, name-reads}
use Rattle.section_reader.specs.declared.raw.ScalarRun.{ScalarRun}
use Rattle.section_reader.specs.declared.raw.RawSlot.{RawSlot}
use Rattle.section_reader.specs.declared.raw.Head.{Head}
use Rattle.section_reader.specs.Reading.{if_next, flow_at, kind_at, scalar_at, run_at, range_at, parameter_at, slot_at, slots_at, head_at, section_at}
use Rattle.section_reader.specs.Raw.{Run, RangeIs, SpelledSlot, SpelledHead, SpelledParts}

-- a fault may be of any rule, at any byte
abbrev pub Anywhere : ModuleRule → ℕ → List ℕ → Type 0
Anywhere rule left bytes = Unit {0}

loose : {A : Type 0} {P : A → List ℕ → Type 0} {F : ModuleRule → ℕ → List ℕ → Type 0} {f : Reader A} → Reads P F f → Reads P Anywhere f
loose rf = as-reads rf (λ x bytes h. h) (λ x bytes h. h) (λ r left bytes h. tt)

-- ---- one byte or another

-- what is spelled begins with another byte
abbrev Elsewhere : {A : Type 0} → ℕ → (A → List ℕ → Type 0) → Type 0
Elsewhere {A} byte Q = (x : A) (bytes : List ℕ) → Q x bytes → (b : ℕ) × (others : List ℕ) × (bytes ≡ b ∷ others) × (b ≡ byte → ⊥)

apart : {A : Type 0} (P : A → List ℕ → Type 0) (b byte : ℕ) → (b ≡ byte → ⊥) → Elsewhere byte (λ x. Begins b (P x))
apart P b byte other x bytes h = (b, h.back, begins_with h, other)

both-apart : {A : Type 0} (P Q : A → List ℕ → Type 0) (byte : ℕ) → Elsewhere byte P → Elsewhere byte Q → Elsewhere byte (λ x bytes. P x bytes ⊎ Q x bytes)
both-apart P Q byte p q x bytes (inl h) = p x bytes h
both-apart P Q byte p q x bytes (inr h) = q x bytes h

if_next-reads : {A : Type 0} {P Q : A → List ℕ → Type 0} {F G : ModuleRule → ℕ → List ℕ → Type 0} {f g : Reader A} (byte : ℕ) → Elsewhere byte Q → Reads P F f → Reads Q G g
    → Reads (λ x bytes. Begins byte (P x) bytes ⊎ Q x bytes) Anywhere (if_next byte f g)
unfolding behind_id
if_next-reads {A} {P} {Q} {f = f} {g} byte elsewhere rf rg = record { ends = ends; again = again } where
  Either : A → List ℕ → Type 0
  Either x bytes = Begins byte (P x) bytes ⊎ Q x bytes

  ends : (bytes : List ℕ) → ReadEnds Either Anywhere bytes (if_next byte f g bytes)
  ends [] = ends-as (rg.ends []) (λ x l h. inr h) (λ r left l h. tt)
  ends (b ∷ rest) = by (eqb b byte) refl where
    by : (t : Bool) → eqb b byte ≡ t → ReadEnds Either Anywhere (b ∷ rest) (choice (cond t (Some rest) None) (g (b ∷ rest)) f)
    by true p = ends-as (ends-begun byte refl (eqb-true b byte p) (rf.ends rest)) (λ x l h. inl h) (λ r left l h. tt)
    by false p = ends-as (rg.ends (b ∷ rest)) (λ x l h. inr h) (λ r left l h. tt)

  again : (x : A) (front rest : List ℕ) → Either x front → if_next byte f g (front ++ rest) ≡ Ok (x, rest)
  again x front rest (inl h) = rw (begins_with h, eq-eqb byte byte refl) (rf.again x h.back rest h.second)
  again x front rest (inr h) =
      let e = elsewhere x front h in
      rw (e.2, ne_eqb e.0 byte e.3) (subst (λ (l : List ℕ). g (l ++ rest) ≡ Ok (x, rest)) e.2 (rg.again x front rest h))

-- ---- a byte alone

abbrev Only : {A : Type 0} → A → A → List ℕ → Type 0
Only z x bytes = (x ≡ z) × (bytes ≡ [])

alone : {A : Type 0} {bytes : List ℕ} (byte : A → ℕ) (z x : A) → Begins (byte z) (Only z x) bytes → bytes ≡ byte x ∷ []
alone byte z x h = begins_with h ∙ ap (λ (l : List ℕ). byte z ∷ l) h.second.1 ∙ ap (λ y. byte y ∷ []) (sym h.second.0)

begun : {A : Type 0} {bytes : List ℕ} (b : ℕ) (x : A) → bytes ≡ b ∷ [] → Begins b (Only x x) bytes
begun b x e = record { front = b ∷ []; back = []; whole = e; first = refl; second = (refl, refl) }

flow-reads : Reads (λ x. Is (flow_byte x ∷ [])) Anywhere flow_at
unfolding flow_at
flow-reads = as-reads (if_next-reads 0 (apart _ 1 0 (λ e. absurd (omega arith))) (pure-reads Input) (begins-reads 1 (pure-reads Output))) to of (λ r left bytes h. h) where
  to : (x : Flow) (bytes : List ℕ) → Begins 0 (Only Input x) bytes ⊎ Begins 1 (Only Output x) bytes → bytes ≡ flow_byte x ∷ []
  to x bytes (inl h) = alone flow_byte Input x h
  to x bytes (inr h) = alone flow_byte Output x h

  of : (x : Flow) (bytes : List ℕ) → bytes ≡ flow_byte x ∷ [] → Begins 0 (Only Input x) bytes ⊎ Begins 1 (Only Output x) bytes
  of Input bytes e = inl (begun 0 Input e)
  of Output bytes e = inr (begun 1 Output e)

kind-reads : Reads (λ x. Is (kind_byte x ∷ [])) Anywhere kind_at
unfolding kind_at
kind-reads =
    as-reads
    (if_next-reads 0 (both-apart _ _ _ (apart _ 1 0 (λ e. absurd (omega arith))) (apart _ 2 0 (λ e. absurd (omega arith)))) (pure-reads kinds.Stream)
    (if_next-reads 1 (apart _ 2 1 (λ e. absurd (omega arith))) (pure-reads kinds.Value) (begins-reads 2 (pure-reads kinds.Event))))
    to of (λ r left bytes h. h) where
      Cases : Kind → List ℕ → Type 0
      Cases x bytes = Begins 0 (Only kinds.Stream x) bytes ⊎ (Begins 1 (Only kinds.Value x) bytes ⊎ Begins 2 (Only kinds.Event x) bytes)

      to : (x : Kind) (bytes : List ℕ) → Cases x bytes → bytes ≡ kind_byte x ∷ []
      to x bytes (inl h) = alone kind_byte kinds.Stream x h
      to x bytes (inr (inl h)) = alone kind_byte kinds.Value x h
      to x bytes (inr (inr h)) = alone kind_byte kinds.Event x h

      of : (x : Kind) (bytes : List ℕ) → bytes ≡ kind_byte x ∷ [] → Cases x bytes
      of kinds.Stream bytes e = inl (begun 0 kinds.Stream e)
      of kinds.Value bytes e = inr (inl (begun 1 kinds.Value e))
      of kinds.Event bytes e = inr (inr (begun 2 kinds.Event e))

-- ---- scalars

-- the kind that a byte alone says
bare : {bytes : List ℕ} (b : ℕ) (z x : Scalar) → ((bytes : List ℕ) → bytes ≡ b ∷ [] → Scalar_kind z bytes) → Begins b (Only z x) bytes → Scalar_kind x bytes
bare {bytes} b z x is h = subst (λ (k : Scalar). Scalar_kind k bytes) (sym h.second.0) (is bytes (begins_with h ∙ ap (λ (l : List ℕ). b ∷ l) h.second.1))

scalar-reads : Reads Scalar_kind Anywhere scalar_at
unfolding scalar_at
scalar-reads =
    as-reads
    (if_next-reads 0 (both-apart _ _ _ (apart _ 1 0 (λ e. absurd (omega arith))) (both-apart _ _ _ (apart _ 2 0 (λ e. absurd (omega arith))) (both-apart _ _ _ (apart _ 3 0 (λ e. absurd (omega arith))) (apart _ 4 0 (λ e. absurd (omega arith)))))) (pure-reads scalar.Int32)
    (if_next-reads 1 (both-apart _ _ _ (apart _ 2 1 (λ e. absurd (omega arith))) (both-apart _ _ _ (apart _ 3 1 (λ e. absurd (omega arith))) (apart _ 4 1 (λ e. absurd (omega arith))))) (pure-reads scalar.Int64)
    (if_next-reads 2 (both-apart _ _ _ (apart _ 3 2 (λ e. absurd (omega arith))) (apart _ 4 2 (λ e. absurd (omega arith)))) (pure-reads scalar.Bool)
    (if_next-reads 3 (apart _ 4 3 (λ e. absurd (omega arith))) (map-reads scalar.Wrap index-reads) (begins-reads 4 (map-reads scalar.Clamp index-reads))))))
    to of (λ r left bytes h. h) where
      Cases : Scalar → List ℕ → Type 0
      Cases x bytes =
          Begins 0 (Only scalar.Int32 x) bytes ⊎ (Begins 1 (Only scalar.Int64 x) bytes ⊎ (Begins 2 (Only scalar.Bool x) bytes
          ⊎ (Begins 3 (Mapped scalar.Wrap Index x) bytes ⊎ Begins 4 (Mapped scalar.Clamp Index x) bytes)))

      to : (x : Scalar) (bytes : List ℕ) → Cases x bytes → Scalar_kind x bytes
      to x bytes (inl h) = bare 0 scalar.Int32 x (λ l e. e) h
      to x bytes (inr (inl h)) = bare 1 scalar.Int64 x (λ l e. e) h
      to x bytes (inr (inr (inl h))) = bare 2 scalar.Bool x (λ l e. e) h
      to x bytes (inr (inr (inr (inl h)))) = rw h.second.1 (behind h h.second.2)
      to x bytes (inr (inr (inr (inr h)))) = rw h.second.1 (behind h h.second.2)

      of : (x : Scalar) (bytes : List ℕ) → Scalar_kind x bytes → Cases x bytes
      of scalar.Int32 bytes h = inl (begun 0 scalar.Int32 h)
      of scalar.Int64 bytes h = inr (inl (begun 1 scalar.Int64 h))
      of scalar.Bool bytes h = inr (inr (inl (begun 2 scalar.Bool h)))
      of (scalar.Wrap n) bytes h = inr (inr (inr (inl (behind h (n, refl, h.second)))))
      of (scalar.Clamp n) bytes h = inr (inr (inr (inr (behind h (n, refl, h.second)))))

run-reads : Reads Run Anywhere run_at
unfolding run_at
run-reads = loose (from_first (field (λ r. r.count) index-reads (λ n. last (λ r. r.kind) (made n) scalar-reads (λ x. (tt, refl)) (λ x. refl) (λ c r. rw (← r.1) refl)))) where
  made : ℕ → Scalar → ScalarRun
  made count kind = record { count = count; kind = kind }

-- ---- parameters

range-reads : Reads RangeIs Anywhere range_at
unfolding range_at
range-reads =
    loose (from_first (field (λ r. r.min) (signed-reads 32 (omega arith)) (λ a. field (λ r. r.max) (signed-reads 32 (omega arith)) (λ b. last (λ r. r.init) (made a b) (signed-reads 32 (omega arith)) (λ x. ((tt, refl), refl)) (λ x. refl) (λ c r. rw (← r.0.1, ← r.1) refl))))) where
      made : ℤ → ℤ → ℤ → Range
      made min max init = record { min = min; max = max; init = init }

parameter-reads : Reads Parameter Anywhere parameter_at
unfolding parameter_at
parameter-reads = as-reads (if_next-reads 0 (apart _ 1 0 (λ e. absurd (omega arith))) (pure-reads None) (begins-reads 1 (map-reads (λ (r : Range). Some r) range-reads))) to of (λ r left bytes h. h) where
  Cases : Option Range → List ℕ → Type 0
  Cases x bytes = Begins 0 (Only None x) bytes ⊎ Begins 1 (Mapped (λ (r : Range). Some r) RangeIs x) bytes

  to : (x : Option Range) (bytes : List ℕ) → Cases x bytes → Parameter x bytes
  to x bytes (inl h) = rw h.second.0 (begins_with h ∙ ap (λ (l : List ℕ). 0 ∷ l) h.second.1)
  to x bytes (inr h) = rw h.second.1 (behind h h.second.2)

  of : (x : Option Range) (bytes : List ℕ) → Parameter x bytes → Cases x bytes
  of None bytes h = inl (begun 0 None h)
  of (Some range) bytes h = inr (behind h (range, refl, h.second))

-- ---- endpoints, and the section

slot-reads : Reads SpelledSlot Anywhere slot_at
unfolding slot_at
slot-reads =
    loose (from_first (field (λ s. s.flow) flow-reads (λ a. field (λ s. s.kind) kind-reads (λ b. field (λ s. s.name) name-reads (λ c. field (λ s. s.address) index-reads (λ d. field (λ s. s.runs) (vector-reads run-reads) (λ e.
    last (λ s. s.parameter) (made a b c d e) parameter-reads (λ x. (((((tt, refl), refl), refl), refl), refl)) (λ x. refl) (λ c r. rw (← r.0.0.0.0.1, ← r.0.0.0.1, ← r.0.0.1, ← r.0.1, ← r.1) refl)))))))) where
      made : Flow → Kind → List ℕ → ℕ → List ScalarRun → Option Range → RawSlot
      made flow kind name address runs parameter = record { flow = flow; kind = kind; name = name; address = address; runs = runs; parameter = parameter }

slots-reads : Reads (Vector SpelledSlot) Anywhere slots_at
unfolding slots_at
slots-reads = loose (counted-reads index-reads slot-reads)

head-reads : Reads SpelledHead Anywhere head_at
unfolding head_at
head-reads =
    as-reads
    (if_next-reads 1 (apart _ 2 1 (λ e. absurd (omega arith))) (map-reads (made Single) index-reads) (begins-reads 2 (then-reads index-reads (λ whole latency. map-reads (λ block. made (Blocks block) latency) index-reads))))
    to (λ x bytes h. of x.interface x.latency bytes h) (λ r left bytes h. h) where
      made : Interface → ℕ → Head
      made interface latency = record { interface = interface; latency = latency }

      Cases : Head → List ℕ → Type 0
      Cases x bytes = Begins 1 (Mapped (made Single) Index x) bytes ⊎ Begins 2 (Then Index (λ latency. Mapped (λ block. made (Blocks block) latency) Index) x) bytes

      to : (x : Head) (bytes : List ℕ) → Cases x bytes → SpelledHead x bytes
      to x bytes (inl h) = rw h.second.1 (behind h h.second.2)
      to x bytes (inr h) = let j = h.second.1 in rw j.second.1 (behind h (behind j j.second.2))

      of : (interface : Interface) (latency : ℕ) (bytes : List ℕ) → SpelledHead (made interface latency) bytes → Cases (made interface latency) bytes
      of Single latency bytes h = inl (behind h (latency, refl, h.second))
      of (Blocks block) latency bytes h = inr (behind h (latency, behind h.second (block, refl, h.second.second)))

pub section-reads : Reads SpelledParts Anywhere section_at
section-reads =
    loose (from_first (field (λ (s : Head × List RawSlot). s.0) head-reads (λ head. last (λ s. s.1) (λ slots. (head, slots)) slots-reads (λ x. (tt, refl)) (λ x. refl) (λ c r. ap (λ (h : Head). (h, c.1)) r.1))))
