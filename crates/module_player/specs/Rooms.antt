-- The room for what a host reads: docs/MODULE.md, "Slots" and "How a run goes".
use Rattle.std.specs.Prelude.{◌≡◌, ◌+◌, ℕ, List, [], ◌∷◌, length, if◌then◌else◌, ℤ}
use Rattle.std.specs.List.{AllByRecursion}
use Rattle.cm_base.specs.declared.host.HostEnd.{HostEnd}
use Rattle.cm_base.specs.declared.play.Item.{Item}
use Rattle.cm_base.specs.declared.play.Item.TheVariants as item
use Rattle.cm_base.specs.Parts.{is_stream}
use Rattle.wasm_tree.specs.Section.{Slot}
use Rattle.wasm_tree.specs.Slots.{is_told, read_slot}
use Rattle.wasm_runner.specs.Entries.{IsShaped}

-- as many numbers for each endpoint as it has scalars
abbrev pub HaveRooms : List Slot → List (List ℤ) → Type 0
HaveRooms [] [] = Unit {0}
HaveRooms [] (room ∷ rooms) = ⊥
HaveRooms (slot ∷ slots) [] = ⊥
HaveRooms (slot ∷ slots) (room ∷ rooms) = (length room ≡ length slot.end.shape) × HaveRooms slots rooms

-- the same of endpoints alone
abbrev pub AreRooms : List HostEnd → List (List ℤ) → Type 0
AreRooms [] [] = Unit {0}
AreRooms [] (room ∷ rooms) = ⊥
AreRooms (end ∷ ends) [] = ⊥
AreRooms (end ∷ ends) (room ∷ rooms) = (length room ≡ length end.shape) × AreRooms ends rooms

-- how many scalars of the endpoint a frame has: those of a stream or value output
abbrev pub output_size : HostEnd → ℕ
output_size end = if is_told end then length end.shape else 0

-- how many scalars a frame has
abbrev pub frame_size : List Slot → ℕ
frame_size [] = 0
frame_size (slot ∷ slots) = output_size slot.end + frame_size slots

-- the entry from which an output is read: a stream has one for each frame of a block
abbrev pub read_entry_of : HostEnd → ℕ → ℕ
read_entry_of end entry = if is_stream end.kind then entry else 0

-- what a frame has of the endpoint
abbrev pub output_at : Slot → ℕ → List ℕ → List ℤ
output_at slot entry memory = if is_told slot.end then read_slot slot (read_entry_of slot.end entry) memory else []

-- the scalars of an item
abbrev pub told_value : Item → List ℤ
told_value (item.Event frame endpoint value) = value
told_value (item.Frame frame values) = values

-- the endpoints are lawful, and there is room for an event of each, and for a frame
pub record IsRoomy (slots : List Slot) (rooms : List (List ℤ)) (frame : List ℤ) : Type 0 where
  pub shaped : AllByRecursion IsShaped slots
  pub each : HaveRooms slots rooms
  pub whole : length frame ≡ frame_size slots
