-- What is promised of the code of rings.
use Rattle.std.specs.Prelude.{ℕ, ◌≡◌, ◌+◌, ◌*◌, List, [], ◌∷◌, ◌++◌, length, drop}
use Rattle.wasm_tree.specs.declared.module.ValType.{ValType}
use Rattle.wasm_tree.specs.declared.instr.Instr.{Instr}
use Rattle.wasm_tree.specs.Reduce.{Func, State, write_bytes}
use Rattle.wasm_tree.specs.Typed.{Context, Typed}
use Rattle.wasm_steps.specs.Steps.{Does, quiet}
use Rattle.wasm_steps.specs.Windows.{window}
use Rattle.delay_lines.specs.declared.ring.RingPlace.{RingPlace}
use Rattle.delay_lines.specs.Rings.{line_of, oldest_of, IsOutside, Stands}
use Rattle.straight_code.specs.Straight.{plains}
use Rattle.memory_code.specs.Parts.{parts_in}
use Rattle.memory_code.specs.Copies.{with_memory}

-- typed from nothing to nothing in every function, whatever its locals are
abbrev pub IsTyped : List Instr → Type 0
IsTyped code = (c : Context) (labels : List (List ValType)) (before : List ValType) → Typed c labels (plains code) before before

-- four reductions for each part of an entry
abbrev pub copy_count : ℕ → ℕ
copy_count width = parts_in width * 4

-- the oldest entry is copied to the address, and no other byte changes
abbrev pub CopiesOldest : RingPlace → ℕ → List Instr → Type 0
CopiesOldest ring to code = (funcs : List Func) (st : State) → Stands ring st.memory → IsOutside ring st.memory to ring.width →
    Does funcs (plains code) (copy_count ring.width) quiet st (with_memory st (write_bytes st.memory to (oldest_of ring st.memory)))

-- a memory in which the oldest entry is dropped, this one comes last, and nothing outside the ring differs
pub record IsPushed (ring : RingPlace) (entry before after : List ℕ) : Type 0 where
  pub stands : Stands ring after
  pub line : line_of ring after ≡ drop 1 (line_of ring before) ++ entry ∷ []
  pub count : length after ≡ length before
  pub outside : (address size : ℕ) → IsOutside ring before address size → window after address size ≡ window before address size

-- the oldest entry is dropped, and the one at the address comes last
abbrev pub Pushes : RingPlace → ℕ → List Instr → Type 0
Pushes ring from code = (funcs : List Func) (st : State) → Stands ring st.memory → IsOutside ring st.memory from ring.width →
    (after : List ℕ) × Does funcs (plains code) (copy_count ring.width + 6) quiet st (with_memory st after)
    × IsPushed ring (window st.memory from ring.width) st.memory after
