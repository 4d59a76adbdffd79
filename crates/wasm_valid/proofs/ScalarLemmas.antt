-- Scalars in memory, one after another.
use Rattle.std.proofs.Common.{◌≡◌, ◌<◌, ◌≤◌, ◌+◌, ◌*◌, ◌↔◌, Bool, min, ℕ, zero, suc, List, [], ◌∷◌, ◌++◌, length, get_or, take, drop, Some, refl, sym, ap, ◌∙◌, subst, arith, add-one, append_assoc, append-nil, drop-cons, drop_of_length-le, length-set}
use Rattle.std.proofs.Math.ListN.{set}
use Rattle.std.proofs.lemmas.List.{take_min, drop_min, take_more_set}
use Rattle.std.specs.Prelude.{slice_get, ℤ, IsTrue}
use Rattle.std.specs.Int.{w32, w64, from_le_bytes}
use Rattle.std.specs.List.{AllByRecursion}
use Rattle.cm_base.specs.declared.host.Scalar.{Scalar}
use Rattle.cm_base.specs.declared.host.HostEnd.{HostEnd}
use Rattle.cm_base.specs.HostEnds.{IsLawfulScalar, IsLawfulEnd, IsLawful}
use Rattle.wasm_tree.specs.Section.{Slot, scalar_size, shape_size, slots_of}
use Rattle.wasm_tree.specs.Slots.{scalar_of, scalars_of, read_slot}
use Rattle.wasm_valid.specs.Views.{HasScalars}
use Rattle.wasm_valid.proofs.DescribedLemmas.{count_slots, all_at, whole_take}

pub four_bytes : (bytes : List ℕ) → from_le_bytes w32 (get_or bytes 0 0 ∷ get_or bytes 1 0 ∷ get_or bytes 2 0 ∷ get_or bytes 3 0 ∷ []) ≡ from_le_bytes w32 bytes
four_bytes bytes = refl

pub eight_bytes : (bytes : List ℕ) →
    from_le_bytes w64 (get_or bytes 0 0 ∷ get_or bytes 1 0 ∷ get_or bytes 2 0 ∷ get_or bytes 3 0 ∷ get_or bytes 4 0 ∷ get_or bytes 5 0 ∷ get_or bytes 6 0 ∷ get_or bytes 7 0 ∷ []) ≡ from_le_bytes w64 bytes
eight_bytes bytes = refl

-- ---- one scalar more

pub read_more : (shape : List Scalar) (k : ℕ) (d : Scalar) (into next : List ℤ) (rest front behind : List ℕ) (size : ℕ) (z : ℤ) (whole : List ℤ) → k < length shape → length into ≡ length shape →
    size ≡ min (scalar_size (get_or shape k d)) (length rest) → front ≡ take size rest → behind ≡ drop size rest → z ≡ scalar_of (get_or shape k d) front → next ≡ set into k z →
    take k into ++ scalars_of (drop k shape) rest ≡ whole → (length next ≡ length shape) × (take (k + 1) next ++ scalars_of (drop (k + 1) shape) behind ≡ whole)
read_more shape k d into next rest front behind size z whole lt count s f b value put before =
    let kind = get_or shape k d in
    let taken : front ≡ take (scalar_size kind) rest = f ∙ ap (λ n. take n rest) s ∙ take_min (scalar_size kind) rest in
    let left : behind ≡ drop (scalar_size kind) rest = b ∙ ap (λ n. drop n rest) s ∙ drop_min (scalar_size kind) rest in
    let scalar : z ≡ scalar_of kind (take (scalar_size kind) rest) = value ∙ ap (λ (l : List ℕ). scalar_of kind l) taken in
    let first : take (k + 1) next ≡ take k into ++ z ∷ [] = ap (λ (l : List ℤ). take (k + 1) l) put ∙ take_more_set into k z (subst (λ n. k < n) (sym count) lt) in
    let shapes : drop k shape ≡ kind ∷ drop (k + 1) shape = drop-cons shape k d lt ∙ ap (λ n. kind ∷ drop n shape) (sym (add-one k)) in
    let tail : z ∷ scalars_of (drop (k + 1) shape) behind ≡ scalars_of (drop k shape) rest =
    ap (λ (v : ℤ). v ∷ scalars_of (drop (k + 1) shape) behind) scalar ∙ ap (λ (l : List ℕ). scalar_of kind (take (scalar_size kind) rest) ∷ scalars_of (drop (k + 1) shape) l) left ∙ ap (λ (l : List Scalar). scalars_of l rest) (sym shapes) in (
      ap (λ (l : List ℤ). length l) put ∙ length-set into k z ∙ count,
      ap (λ (l : List ℤ). l ++ scalars_of (drop (k + 1) shape) behind) first ∙ append_assoc (take k into) (z ∷ []) (scalars_of (drop (k + 1) shape) behind) ∙ ap (λ (l : List ℤ). take k into ++ l) tail ∙ before,
    )

pub read_whole : (shape : List Scalar) (k : ℕ) (into : List ℤ) (rest : List ℕ) (whole : List ℤ) → length shape ≤ k → length into ≡ length shape → take k into ++ scalars_of (drop k shape) rest ≡ whole → into ≡ whole
read_whole shape k into rest whole le count before =
    sym (append-nil into) ∙ ap (λ (l : List ℤ). l ++ []) (sym (whole_take into k (subst (λ n. n ≤ k) (sym count) le))) ∙ ap (λ (l : List Scalar). take k into ++ scalars_of l rest) (sym (drop_of_length-le shape le)) ∙ before

-- ---- the slot of an endpoint

pub slot_is : (host : List HostEnd) (addresses : List ℕ) (k : ℕ) (d : HostEnd) → length host ≡ length addresses → k < length host → slice_get (slots_of host addresses) k ≡ Some (record { end = get_or host k d; address = get_or addresses k 0 })
slot_is [] addresses k d e lt = absurd (omega (arith, lt))
slot_is (end ∷ host) [] k d e lt = absurd (omega (arith, e))
slot_is (end ∷ host) (address ∷ addresses) zero d e lt = refl
slot_is (end ∷ host) (address ∷ addresses) (suc k) d e lt = slot_is host addresses k d (omega (arith, e)) (omega (arith, lt))

some_slot : (x y : Slot) → Some x ≡ Some y → x ≡ y
some_slot x y e = cc

pub slot_known : (slots : List Slot) (host : List HostEnd) (addresses : List ℕ) (k : ℕ) (d : HostEnd) (slot : Slot) → slots_of host addresses ≡ slots → length host ≡ length addresses → k < length host → slice_get slots k ≡ Some slot → slot ≡ record { end = get_or host k d; address = get_or addresses k 0 }
slot_known slots host addresses k d slot view e lt there = some_slot slot (record { end = get_or host k d; address = get_or addresses k 0 }) (sym there ∙ ap (λ l. slice_get l k) (sym view) ∙ slot_is host addresses k d e lt)

pub within_host : (slots : List Slot) (host : List HostEnd) (addresses : List ℕ) (k : ℕ) → slots_of host addresses ≡ slots → length host ≡ length addresses → k < length slots → k < length host
within_host slots host addresses k view e lt = subst (λ n. k < n) (ap (λ (l : List Slot). length l) (sym view) ∙ count_slots host addresses e) lt

pub lawful_scalars : (host : List HostEnd) (k : ℕ) (d : HostEnd) → IsLawful host → k < length host → AllByRecursion IsLawfulScalar (get_or host k d).shape
lawful_scalars host k d lawful lt = (all_at IsLawfulEnd host k d lt lawful.each).scalars

pub read_is : (slots : List Slot) (host : List HostEnd) (addresses : List ℕ) (k : ℕ) (d : HostEnd) (shape : List Scalar) (memory entry : List ℕ) (size : ℕ) (into : List ℤ) → slots_of host addresses ≡ slots → length host ≡ length addresses → k < length host →
    shape ≡ (get_or host k d).shape → size ≡ min (get_or addresses k 0) (length memory) → entry ≡ drop size memory → into ≡ scalars_of shape entry →
    (slot : Slot) → slice_get slots k ≡ Some slot → into ≡ read_slot slot 0 memory
read_is slots host addresses k d shape memory entry size into view e lt s n b value slot there =
    let known = slot_known slots host addresses k d slot view e lt there in
    let here : into ≡ scalars_of (get_or host k d).shape (drop (get_or addresses k 0) memory) =
    value ∙ ap (λ (l : List Scalar). scalars_of l entry) s ∙ ap (λ (l : List ℕ). scalars_of (get_or host k d).shape l) (b ∙ ap (λ m. drop m memory) n ∙ drop_min (get_or addresses k 0) memory) in
    here ∙ ap (λ m. scalars_of (get_or host k d).shape (drop m memory)) no_more ∙ ap (λ (x : Slot). read_slot x 0 memory) (sym known)
  where
    no_more : get_or addresses k 0 ≡ get_or addresses k 0 + 0 * shape_size (get_or host k d).shape
    no_more = omega arith

pub slot_of : (slots : List Slot) (host : List HostEnd) (addresses : List ℕ) (k : ℕ) (d : HostEnd) → slots_of host addresses ≡ slots → length host ≡ length addresses → k < length host → slice_get slots k ≡ Some (record { end = get_or host k d; address = get_or addresses k 0 })
slot_of slots host addresses k d view e lt = ap (λ l. slice_get l k) (sym view) ∙ slot_is host addresses k d e lt

pub scalars_told : (slots : List Slot) (host : List HostEnd) (addresses : List ℕ) (k count : ℕ) (d : HostEnd) (told : Bool) → slots_of host addresses ≡ slots → length host ≡ length addresses → k < length host →
    (IsTrue told ↔ (length (get_or host k d).shape ≡ count)) → IsTrue told ↔ HasScalars slots k count
scalars_told slots host addresses k count d told view e lt is = (
  λ t. (
    subst (λ n. k < n) (sym (count_slots host addresses e) ∙ ap (λ (l : List Slot). length l) view) lt,
    λ slot there. sym (is.0 t) ∙ sym (ap (λ (s : Slot). length s.end.shape) (slot_known slots host addresses k d slot view e lt there)),
  ),
  λ h. is.1 (sym (h.1 (record { end = get_or host k d; address = get_or addresses k 0 }) (slot_of slots host addresses k d view e lt))),
)

pub no_scalars : (slots : List Slot) (host : List HostEnd) (addresses : List ℕ) (k count : ℕ) → slots_of host addresses ≡ slots → length host ≡ length addresses → length host ≤ k → HasScalars slots k count → ⊥
no_scalars slots host addresses k count view e le h = let lt = within_host slots host addresses k view e h.0 in absurd (omega (arith, lt, le))
