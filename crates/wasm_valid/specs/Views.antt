-- What contracts see of a module that was validated.
use Rattle.std.specs.Prelude.{ℕ, ◌≡◌, ◌<◌, List, length, slice_get, Some}
use Rattle.wasm_tree.specs.declared.interface.Interface.{Interface}
use Rattle.wasm_tree.specs.declared.interface.Interface.TheVariants.{Single, Blocks}
use Rattle.wasm_tree.specs.declared.module.Module.{Module}
use Rattle.wasm_tree.specs.Section.{Slot}
use Rattle.wasm_valid.specs.Checked.{Checked}

abbrev pub checked_of : Module → Interface → ℕ → List Slot → ℕ → ℕ → Checked
checked_of m interface latency slots stack marks =
    record { of = m; section = record { interface = interface; latency = latency; slots = slots }; stack = stack; marks = marks }

-- the first byte of the section `cmajor`
abbrev pub interface_number : Interface → ℕ
interface_number Single = 1
interface_number (Blocks block) = 2

-- there is an endpoint of this number, and it has so many scalars
abbrev pub HasScalars : List Slot → ℕ → ℕ → Type 0
HasScalars slots number count = (number < length slots) × ((slot : Slot) → slice_get slots number ≡ Some slot → count ≡ length slot.end.shape)
