-- Bytes spell one section `cmajor` at most.
use Rattle.std.proofs.Common.{◌≡◌, ℕ, List, [], ◌∷◌, ◌++◌, Option, Some, None, refl, sym, ap, ◌∙◌, arith, ℤ}
use Rattle.std.specs.Prelude.{replicate}
use Rattle.std.specs.List.{flat_map}
use Rattle.std.proofs.lemmas.List.{map-id}
use Rattle.std.proofs.lemmas.List.Folds.{flat_map-map}
use Rattle.cm_base.specs.declared.host.Flow.{Flow}
use Rattle.cm_base.specs.declared.host.Flow.TheVariants.{Input, Output}
use Rattle.cm_base.specs.declared.host.Kind.{Kind}
use Rattle.cm_base.specs.declared.host.Kind.TheVariants.{Stream, Value, Event}
use Rattle.cm_base.specs.declared.host.Scalar.{Scalar}
use Rattle.cm_base.specs.declared.host.Scalar.TheVariants.{Int32, Int64, Bool, Wrap, Clamp}
use Rattle.cm_base.specs.declared.host.Range.{Range}
use Rattle.wasm_tree.specs.declared.interface.Interface.{Interface}
use Rattle.wasm_tree.specs.declared.interface.Interface.TheVariants.{Single, Blocks}
use Rattle.wasm_tree.specs.declared.module.Custom.{Custom}
use Rattle.wasm_tree.specs.declared.module.Module.{Module}
use Rattle.wasm_tree.specs.Spelled.{Joined, Begins, Index, Signed}
use Rattle.wasm_tree.specs.Section.{Slot, CmajorSection, flow_byte, kind_byte, Scalar_kind, KindRun, Spelled_run, Runs, Parameter, Spelled_slot, Spelled_interface, Spelled_section, IsSection}
use Rattle.wasm_tree.proofs.PrefixCodes.{IsCode, IsPrefixCode, behind, joined_code, byte_code, begins_code, unsigned_code, signed_code, vector_code, utf8_code}

-- ---- bytes that stand for a flow or a kind

same_flow : (a b : Flow) → flow_byte a ≡ flow_byte b → a ≡ b
same_flow Input Input e = refl
same_flow Output Output e = refl
same_flow Input Output e = absurd (omega (arith, e))
same_flow Output Input e = absurd (omega (arith, e))

same_kind : (a b : Kind) → kind_byte a ≡ kind_byte b → a ≡ b
same_kind Stream Stream e = refl
same_kind Value Value e = refl
same_kind Event Event e = refl
same_kind Stream Value e = absurd (omega (arith, e))
same_kind Stream Event e = absurd (omega (arith, e))
same_kind Value Stream e = absurd (omega (arith, e))
same_kind Value Event e = absurd (omega (arith, e))
same_kind Event Stream e = absurd (omega (arith, e))
same_kind Event Value e = absurd (omega (arith, e))

-- ---- kinds of scalars

scalar_byte : Scalar → ℕ
scalar_byte Int32 = 0
scalar_byte Int64 = 1
scalar_byte Bool = 2
scalar_byte (Wrap n) = 3
scalar_byte (Clamp n) = 4

-- a spelling of a kind begins with its byte
pub record StartsWith (byte : ℕ) (bytes : List ℕ) : Type 0 where
  pub tail : List ℕ
  pub whole : bytes ≡ byte ∷ tail

begins_starts : {Q : List ℕ → Type 0} (byte : ℕ) (f : List ℕ) → Begins byte Q f → StartsWith byte f
begins_starts byte f p = record { tail = p.back; whole = p.whole ∙ ap (λ (l : List ℕ). l ++ p.back) p.first }

kind_starts : (k : Scalar) (f : List ℕ) → Scalar_kind k f → StartsWith (scalar_byte k) f
unfolding scalar_byte
kind_starts Int32 f p = record { tail = []; whole = p }
kind_starts Int64 f p = record { tail = []; whole = p }
kind_starts Bool f p = record { tail = []; whole = p }
kind_starts (Wrap n) f p = begins_starts 3 f p
kind_starts (Clamp n) f p = begins_starts 4 f p

heads_same : (b c : ℕ) (f g r s : List ℕ) → StartsWith b f → StartsWith c g → f ++ r ≡ g ++ s → b ≡ c
heads_same b c f g r s p q e =
    let h : b ∷ (p.tail ++ r) ≡ c ∷ (q.tail ++ s) = sym (ap (λ (l : List ℕ). l ++ r) p.whole) ∙ (e ∙ ap (λ (l : List ℕ). l ++ s) q.whole) in
    cc h

rest_same : (b c : ℕ) (f g r s : List ℕ) → f ≡ b ∷ [] → g ≡ c ∷ [] → f ++ r ≡ g ++ s → r ≡ s
rest_same b c f g r s p q e =
    let h : b ∷ r ≡ c ∷ s = sym (ap (λ (l : List ℕ). l ++ r) p) ∙ (e ∙ ap (λ (l : List ℕ). l ++ s) q) in
    cc h

kind_code_at : (x y : Scalar) (f g r s : List ℕ) → Scalar_kind x f → Scalar_kind y g → f ++ r ≡ g ++ s → scalar_byte x ≡ scalar_byte y → (x ≡ y) × (r ≡ s)
unfolding scalar_byte
kind_code_at Int32 Int32 f g r s p q e h = (refl, rest_same 0 0 f g r s p q e)
kind_code_at Int64 Int64 f g r s p q e h = (refl, rest_same 1 1 f g r s p q e)
kind_code_at Bool Bool f g r s p q e h = (refl, rest_same 2 2 f g r s p q e)
kind_code_at (Wrap n) (Wrap m) f g r s p q e h =
    let a = begins_code 3 (λ n. n) Index (unsigned_code 32) n m f g r s p q e in
    (ap Wrap a.0, a.1)
kind_code_at (Clamp n) (Clamp m) f g r s p q e h =
    let a = begins_code 4 (λ n. n) Index (unsigned_code 32) n m f g r s p q e in
    (ap Clamp a.0, a.1)
kind_code_at x y f g r s p q e h = absurd (omega (arith, h))

kind_code : IsPrefixCode Scalar_kind
kind_code x y f g r s p q e = kind_code_at x y f g r s p q e (heads_same (scalar_byte x) (scalar_byte y) f g r s (kind_starts x f p) (kind_starts y g q) e)

-- ---- shapes

scalars_of : KindRun → List Scalar
scalars_of run = replicate run.count run.kind

run_code : IsCode scalars_of Spelled_run
unfolding scalars_of
run_code x y f g r s p q e =
    let a = joined_code (λ n. n) (λ k. k) Index Scalar_kind (unsigned_code 32) kind_code x.count y.count x.kind y.kind f g r s p q e in
    (ap (λ (n : ℕ). replicate n x.kind) a.0 ∙ ap (replicate y.count) a.1, a.2)

shape_code : IsPrefixCode Runs
unfolding scalars_of
shape_code x y f g r s p q e =
    let a = vector_code scalars_of Spelled_run run_code p.runs q.runs f g r s p.spelled q.spelled e in
    let same : flat_map scalars_of p.runs ≡ flat_map scalars_of q.runs =
    sym (flat_map-map (λ l. l) scalars_of p.runs) ∙ (ap (flat_map (λ l. l)) a.0 ∙ flat_map-map (λ l. l) scalars_of q.runs) in
    (p.whole ∙ (same ∙ sym q.whole), a.1)

-- ---- parameters

range_of : ℤ → ℤ → ℤ → Range
range_of min max init = record { min = min; max = max; init = init }

Spelled_range : Range → List ℕ → Type 0
Spelled_range range = Joined (Signed 32 range.min) (Joined (Signed 32 range.max) (Signed 32 range.init))

-- two numbers with a sign, one behind the other
pairs_code : (x x' y y' : ℤ) (f g r s : List ℕ) → Joined (Signed 32 x) (Signed 32 y) f → Joined (Signed 32 x') (Signed 32 y') g → f ++ r ≡ g ++ s → (x ≡ x') × (y ≡ y') × (r ≡ s)
pairs_code x x' y y' f g r s p q e = joined_code (λ z. z) (λ z. z) (Signed 32) (Signed 32) (signed_code 32) (signed_code 32) x x' y y' f g r s p q e

range_code : IsPrefixCode Spelled_range
unfolding Spelled_range range_of
range_code x y f g r s p q e =
    let a = signed_code 32 x.min y.min p.front q.front (p.back ++ r) (q.back ++ s) p.first q.first (behind p q r s e) in
    let b = pairs_code x.max y.max x.init y.init p.back q.back r s p.second q.second a.1 in
    (ap (λ (z : ℤ). range_of z x.max x.init) a.0 ∙ (ap (λ (z : ℤ). range_of y.min z x.init) b.0 ∙ ap (λ (z : ℤ). range_of y.min y.max z) b.1), b.2)

parameter_code : IsPrefixCode Parameter
unfolding Spelled_range
parameter_code None None f g r s p q e = (refl, rest_same 0 0 f g r s p q e)
parameter_code None (Some y) f g r s p q e = let h : 0 ≡ 1 = heads_same 0 1 f g r s (record { tail = []; whole = p }) (begins_starts 1 g q) e in absurd (omega (arith, h))
parameter_code (Some x) None f g r s p q e = let h : 1 ≡ 0 = heads_same 1 0 f g r s (begins_starts 1 f p) (record { tail = []; whole = q }) e in absurd (omega (arith, h))
parameter_code (Some x) (Some y) f g r s p q e =
    let a = begins_code 1 (λ range. range) Spelled_range range_code x y f g r s p q e in
    (ap Some a.0, a.1)

-- ---- slots

slot_with : Flow → Kind → List ℕ → ℕ → List Scalar → Option Range → Slot
slot_with flow kind name address shape parameter =
    record { end = record { flow = flow; kind = kind; name = name; shape = shape; parameter = parameter }; address = address }

slots_same : (f f' : Flow) (k k' : Kind) (n n' : List ℕ) (a a' : ℕ) (s s' : List Scalar) (p p' : Option Range) → f ≡ f' → k ≡ k' → n ≡ n' → a ≡ a' → s ≡ s' → p ≡ p' →
    slot_with f k n a s p ≡ slot_with f' k' n' a' s' p'
slots_same f f' k k' n n' a a' s s' p p' ef ek en ea es ep =
    ap (λ x. slot_with x k n a s p) ef ∙ (ap (λ x. slot_with f' x n a s p) ek ∙ (ap (λ x. slot_with f' k' x a s p) en
    ∙ (ap (λ (x : ℕ). slot_with f' k' n' x s p) ea ∙ (ap (λ x. slot_with f' k' n' a' x p) es ∙ ap (λ x. slot_with f' k' n' a' s' x) ep))))

slot_code : IsPrefixCode Spelled_slot
unfolding slot_with
slot_code x y f g r s p q e =
    let a = byte_code flow_byte x.end.flow y.end.flow p.front q.front (p.back ++ r) (q.back ++ s) p.first q.first (behind p q r s e) in
    let b = byte_code kind_byte x.end.kind y.end.kind p.second.front q.second.front (p.second.back ++ r) (q.second.back ++ s) p.second.first q.second.first (behind p.second q.second r s a.1) in
    let named = p.second.second in
    let named' = q.second.second in
    let c = utf8_code x.end.name y.end.name named.front named'.front (named.back ++ r) (named'.back ++ s) named.first named'.first (behind named named' r s b.1) in
    let placed = named.second in
    let placed' = named'.second in
    let d = unsigned_code 32 x.address y.address placed.front placed'.front (placed.back ++ r) (placed'.back ++ s) placed.first placed'.first (behind placed placed' r s c.1) in
    let h = joined_code (λ shape. shape) (λ parameter. parameter) Runs Parameter shape_code parameter_code x.end.shape y.end.shape x.end.parameter y.end.parameter placed.back placed'.back r s placed.second placed'.second d.1 in
    (slots_same _ _ _ _ _ _ _ _ _ _ _ _ (same_flow x.end.flow y.end.flow a.0) (same_kind x.end.kind y.end.kind b.0) c.0 d.0 h.0 h.1, h.2)

-- ---- the section

interface_code : (x y : Interface) (l k : ℕ) (f g r s : List ℕ) → Spelled_interface x l f → Spelled_interface y k g → f ++ r ≡ g ++ s → (x ≡ y) × (l ≡ k) × (r ≡ s)
interface_code Single Single l k f g r s p q e =
    let a = begins_code 1 (λ n. n) Index (unsigned_code 32) l k f g r s p q e in
    (refl, a.0, a.1)
interface_code Single (Blocks c) l k f g r s p q e = let h : 1 ≡ 2 = heads_same 1 2 f g r s (begins_starts 1 f p) (begins_starts 2 g q) e in absurd (omega (arith, h))
interface_code (Blocks b) Single l k f g r s p q e = let h : 2 ≡ 1 = heads_same 2 1 f g r s (begins_starts 2 f p) (begins_starts 1 g q) e in absurd (omega (arith, h))
interface_code (Blocks b) (Blocks c) l k f g r s p q e =
    let a = byte_code {A = ℕ} (λ n. n) 2 2 p.front q.front (p.back ++ r) (q.back ++ s) p.first q.first (behind p q r s e) in
    let i = joined_code (λ n. n) (λ n. n) Index Index (unsigned_code 32) (unsigned_code 32) l k b c p.back q.back r s p.second q.second a.1 in
    (ap Blocks i.1, i.0, i.2)

section_with : Interface → ℕ → List Slot → CmajorSection
section_with interface latency slots = record { interface = interface; latency = latency; slots = slots }

pub section_code : IsPrefixCode Spelled_section
unfolding section_with
section_code x y f g r s p q e =
    let a = interface_code x.interface y.interface x.latency y.latency p.front q.front (p.back ++ r) (q.back ++ s) p.first q.first (behind p q r s e) in
    let b = vector_code (λ slot. slot) Spelled_slot slot_code x.slots y.slots p.back q.back r s p.second q.second a.2 in
    let slots : x.slots ≡ y.slots = sym (map-id x.slots) ∙ (b.0 ∙ map-id y.slots) in
    (ap (λ i. section_with i x.latency x.slots) a.0 ∙ (ap (λ (n : ℕ). section_with y.interface n x.slots) a.1 ∙ ap (section_with y.interface y.latency) slots), b.1)

-- a module has just one section `cmajor`, so it has one content
pub section_unique : (m : Module) (s t : CmajorSection) → IsSection m s → IsSection m t → s ≡ t
section_unique m s t p q =
    let only : p.custom ∷ [] ≡ q.custom ∷ [] = sym p.only ∙ q.only in
    let same : p.custom ≡ q.custom = cc only in
    (section_code s t p.custom.bytes q.custom.bytes [] [] p.spelled q.spelled (ap (λ (custom : Custom). custom.bytes ++ []) same)).0
