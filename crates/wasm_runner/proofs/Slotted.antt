-- The slots of a valid module's endpoints.
use Rattle.std.proofs.Common.{◌≡◌, ◌<◌, ◌≤◌, ◌+◌, ◌*◌, ℕ, zero, suc, List, [], ◌∷◌, length, sym, subst, arith}
use Rattle.std.specs.Prelude.{map, sum_by, slice_get}
use Rattle.std.specs.Option.{IfSome, IsSomeAnd}
use Rattle.std.specs.List.{AllByRecursion}
use Rattle.std.proofs.lemmas.List.Sums.{sum_by-cons}
use Rattle.cm_base.specs.HostEnds.{IsLawfulEnd}
use Rattle.wasm_tree.specs.declared.module.Module.{Module}
use Rattle.wasm_tree.specs.Section.{Slot, CmajorSection, IsWithin, entries, shape_size}
use Rattle.wasm_tree.specs.Valid.{Valid, memory_size}
use Rattle.wasm_runner.specs.Entries.{HasEntry, IsShaped, LiesIn}

abbrev scalars_in : Slot → ℕ
scalars_in slot = length slot.end.shape

shaped_by : (slots : List Slot) → AllByRecursion IsLawfulEnd (map (λ slot. slot.end) slots) → sum_by scalars_in slots ≤ 1048576 → AllByRecursion IsShaped slots
shaped_by [] a l = tt
shaped_by (slot ∷ slots) a l =
    let sum = sum_by-cons scalars_in slot slots in
    (record { lawful = a.0.scalars; few = omega (arith, l, sum) }, shaped_by slots a.1 (omega (arith, l, sum)))

-- what the section says of slots
pub shaped : (m : Module) (section : CmajorSection) → Valid m section → AllByRecursion IsShaped section.slots
shaped m section v = shaped_by section.slots v.cmajor.described.lawful.each v.cmajor.described.few

more : (n entry size : ℕ) → entry < n → entry * size + size ≤ n * size
more zero entry size l = absurd (omega (arith, l))
more (suc n) zero size l = omega arith
more (suc n) (suc entry) size l =
    let h : entry * size + size ≤ n * size = more n entry size (omega (arith, l)) in
    omega (arith, h)

lies_by : (section : CmajorSection) (bytes end entry : ℕ) (slots : List Slot) → AllByRecursion (IsWithin bytes section) slots → IsSomeAnd (slice_get slots end) (λ slot. entry < entries section slot.end) →
    IfSome (slice_get slots end) (LiesIn bytes entry)
lies_by section bytes end entry [] a h = absurd h
lies_by section bytes zero entry (slot ∷ slots) a h = λ some.
    let size : ℕ = shape_size slot.end.shape in
    let up = more (entries section slot.end) entry size h in
    let whole = a.0 (omega (arith, up, some)) in
    omega (arith, up, whole)
lies_by section bytes (suc end) entry (slot ∷ slots) a h = lies_by section bytes end entry slots a.1 h

-- an entry that there is lies in the memory
pub lies : (m : Module) (section : CmajorSection) (end entry bytes : ℕ) → Valid m section → bytes ≡ memory_size m.memory → HasEntry section end entry → IfSome (slice_get section.slots end) (LiesIn bytes entry)
lies m section end entry bytes v e h = subst (λ n. IfSome (slice_get section.slots end) (LiesIn n entry)) (sym e) (lies_by section (memory_size m.memory) end entry section.slots v.cmajor.slots h)
