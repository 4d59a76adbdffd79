-- What a host writes into the slots of the inputs, endpoint by endpoint: docs/MODULE.md, "How a run goes".
use Rattle.std.specs.Prelude.{ℕ, ◌≡◌, List, [], ◌∷◌, length, map, if◌then◌else◌, ℤ}
use Rattle.cm_base.specs.declared.host.HostEnd.{HostEnd}
use Rattle.cm_base.specs.Parts.{is_stream_input}
use Rattle.cm_base.specs.Scripts.{HasShape}
use Rattle.wasm_tree.specs.Section.{Slot}
use Rattle.wasm_tree.specs.Slots.{is_value_input, write_slot}

abbrev pub ends_in : List Slot → List HostEnd
ends_in slots = map (λ slot. slot.end) slots

-- ---- one endpoint

-- a stream input takes what its stream carries
abbrev pub stream_written : Slot → ℕ → List ℤ → List ℕ → List ℕ
stream_written slot entry value memory = if is_stream_input slot.end then write_slot slot entry value memory else memory

-- a value input takes its current value
abbrev pub value_written : Slot → List ℤ → List ℕ → List ℕ
value_written slot value memory = if is_value_input slot.end then write_slot slot 0 value memory else memory

abbrev pub input_written : Slot → (given value : List ℤ) → List ℕ → List ℕ
input_written slot given value memory = if is_stream_input slot.end then write_slot slot 0 given memory else value_written slot value memory

-- ---- all endpoints

-- a value of its shape for each endpoint
abbrev pub AreValues : List Slot → List (List ℤ) → Type 0
AreValues [] values = values ≡ []
AreValues (slot ∷ slots) [] = ⊥
AreValues (slot ∷ slots) (value ∷ values) = HasShape slot.end.shape value × AreValues slots values
