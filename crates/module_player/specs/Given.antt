-- What a host gives to a module, and keeps for it: docs/MODULE.md, "How a run goes".
use Rattle.std.specs.Prelude.{ℕ, ◌≡◌, ◌+◌, ◌<◌, ◌&&◌, zero, suc, List, [], ◌∷◌, if◌then◌else◌, ℤ}
use Rattle.cm_base.specs.declared.host.HostEnd.{HostEnd}
use Rattle.cm_base.specs.Parts.{Inputs, inputs_at, is_input, is_event}
use Rattle.wasm_tree.specs.Section.{Slot}
use Rattle.module_player.specs.Rooms.{HaveRooms}
use Rattle.module_player.specs.Writing.{AreValues}

-- the slots of a module, and the current value of each endpoint
pub record Given : Type 0 where
  pub slots : List Slot
  pub current : List (List ℤ)

abbrev pub given_by : List Slot → List (List ℤ) → Given
given_by slots current = record { slots = slots; current = current }

-- how many event inputs stand before each endpoint, with so many before them all
abbrev pub numbers_from : ℕ → List Slot → List ℕ
numbers_from n [] = []
numbers_from n (slot ∷ slots) = n ∷ numbers_from ((if is_input slot.end.flow && is_event slot.end.kind then 1 else 0) + n) slots

-- a value of its shape for each endpoint, room for one more, and the number of each event input
pub record AreGiven (slots : List Slot) (current rooms : List (List ℤ)) (numbers : List ℕ) : Type 0 where
  pub values : AreValues slots current
  pub long : HaveRooms slots rooms
  pub numbered : numbers ≡ numbers_from 0 slots

-- what the streams carry in so many frames from one on
abbrev pub inputs_from : List HostEnd → List (List ℤ) → (frame count : ℕ) → List Inputs
inputs_from ends streams frame zero = []
inputs_from ends streams frame (suc count) = inputs_at ends streams frame ∷ inputs_from ends streams (frame + 1) count
