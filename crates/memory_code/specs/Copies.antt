-- Code that copies and zeroes memory, and what it does.
use Rattle.std.specs.Prelude.{ℕ, ◌≡◌, ◌+◌, ◌*◌, ◌%◌, ◌<◌, ◌≤◌, ◌⊎◌, pos, List, [], ◌∷◌, All, length, replicate, slice_get, Some}
use Rattle.wasm_tree.specs.declared.module.ValType.{ValType}
use Rattle.wasm_tree.specs.declared.module.ValType.TheVariants.{I32, I64}
use Rattle.wasm_tree.specs.declared.instr.Instr.{Instr}
use Rattle.wasm_tree.specs.declared.instr.Instr.TheVariants as instr
use Rattle.wasm_tree.specs.Reduce.{Func, State, write_bytes}
use Rattle.wasm_tree.specs.Typed.{Context}
use Rattle.wasm_steps.specs.Steps.{Does, quiet}
use Rattle.wasm_steps.specs.Windows.{window, Apart}
use Rattle.straight_code.specs.Straight.{plains, step_of}
use Rattle.memory_code.specs.declared.address.Address.{Address}
use Rattle.memory_code.specs.declared.address.Address.TheVariants as a
use Rattle.memory_code.specs.Parts.{is_wide, load_of, store_of, part_size, part_type, parts_in, parts}

-- what is pushed for an address, and what the instruction adds to it
abbrev pub base_code : Address → Instr
base_code (a.Behind local offset) = instr.LocalGet local
base_code (a.Fixed address) = instr.I32Const (pos address)

abbrev pub offset_of : Address → ℕ
offset_of (a.Behind local offset) = offset
offset_of (a.Fixed address) = 0

-- the code that copies the part that begins so many bytes in
abbrev pub copy_part : (to from : Address) → ℕ → ℕ → List Instr
copy_part to from width at =
    base_code to ∷ base_code from ∷ instr.Load (load_of (is_wide width)) (record { align = 0; offset = offset_of from + at })
    ∷ instr.Store (store_of (is_wide width)) (record { align = 0; offset = offset_of to + at }) ∷ []

abbrev pub copy_code : (to from : Address) → ℕ → List Instr
copy_code to from width = parts (copy_part to from width) (part_size (is_wide width)) (parts_in width)

abbrev pub zero_number : ValType → Instr
zero_number I32 = instr.I32Const (pos 0)
zero_number I64 = instr.I64Const (pos 0)

-- the code that zeroes it
abbrev pub zero_part : Address → ℕ → ℕ → List Instr
zero_part to width at = base_code to ∷ zero_number (part_type (is_wide width)) ∷ instr.Store (store_of (is_wide width)) (record { align = 0; offset = offset_of to + at }) ∷ []

abbrev pub zero_code : Address → ℕ → List Instr
zero_code to width = parts (zero_part to width) (part_size (is_wide width)) (parts_in width)

-- ---- what it does

abbrev pub with_memory : State → List ℕ → State
with_memory st memory = record st { memory = memory }

abbrev pub AreBytes : List ℕ → Type 0
AreBytes bytes = All (λ b. b < 256) bytes

-- which address it is
abbrev pub IsAt : Address → List ℕ → ℕ → Type 0
IsAt (a.Behind local offset) locals at = (base : ℕ) × (slice_get locals local ≡ Some base) × (at ≡ base + offset)
IsAt (a.Fixed address) locals at = at ≡ address

-- a part of memory of a width that is a multiple of 4
pub record IsRoom (memory : List ℕ) (at width : ℕ) : Type 0 where
  pub words : width % 4 ≡ 0
  pub inside : at + width ≤ length memory

-- two reductions for each part, and one for each of its addresses that stands behind a local
abbrev pub copy_count : (to from : Address) → ℕ → ℕ
copy_count to from width = parts_in width * (step_of (base_code to) + step_of (base_code from) + 2)

-- wherever it stands, it copies between two places that are apart, or one, and changes nothing else
abbrev pub Copies : (to from : Address) → ℕ → List Instr → Type 0
Copies to from width code = (funcs : List Func) (st : State) (at by : ℕ) → IsAt to st.locals at → IsAt from st.locals by
    → IsRoom st.memory at width → IsRoom st.memory by width → Apart at width by width ⊎ (at ≡ by) → AreBytes st.memory
    → Does funcs (plains code) (copy_count to from width) quiet st (with_memory st (write_bytes st.memory at (window st.memory by width)))

abbrev pub zero_count : Address → ℕ → ℕ
zero_count to width = parts_in width * (step_of (base_code to) + 1)

-- wherever it stands, it writes zeros to a place, and changes nothing else
abbrev pub Zeroes : Address → ℕ → List Instr → Type 0
Zeroes to width code = (funcs : List Func) (st : State) (at : ℕ) → IsAt to st.locals at → IsRoom st.memory at width
    → Does funcs (plains code) (zero_count to width) quiet st (with_memory st (write_bytes st.memory at (replicate width 0)))

-- the local of an address is an `i32`
abbrev pub HasType : Address → Context → Type 0
HasType (a.Behind local offset) c = slice_get c.locals local ≡ Some I32
HasType (a.Fixed address) c = Unit {0}
