-- The entries of slots: docs/MODULE.md, "Slots".
use Rattle.std.specs.Prelude.{ℕ, ◌<◌, ◌≤◌, ◌^◌, ◌*◌, ◌+◌, length, slice_get}
use Rattle.std.specs.Option.{IsSomeAnd}
use Rattle.std.specs.List.{AllByRecursion}
use Rattle.cm_base.specs.HostEnds.{IsLawfulScalar}
use Rattle.wasm_tree.specs.Section.{Slot, CmajorSection, entries, shape_size}

-- the endpoint of this number is there, and its slot has this entry
abbrev pub HasEntry : CmajorSection → (end entry : ℕ) → Type 0
HasEntry section end entry = IsSomeAnd (slice_get section.slots end) (λ slot. entry < entries section slot.end)

-- the kinds of an endpoint's scalars are lawful, and the scalars aren't too many
pub record IsShaped (slot : Slot) : Type 0 where
  pub lawful : AllByRecursion IsLawfulScalar slot.end.shape
  pub few : length slot.end.shape < 2 ^ 24

-- the entry lies in so many bytes; one without scalars has nothing that must
abbrev pub LiesIn : (bytes entry : ℕ) → Slot → Type 0
LiesIn bytes entry slot = 0 < shape_size slot.end.shape → slot.address + entry * shape_size slot.end.shape + shape_size slot.end.shape ≤ bytes
