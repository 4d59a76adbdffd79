-- The code of rings, instruction by instruction.
use Rattle.std.specs.Prelude.{ℕ, ◌+◌, ◌-◌, pos, List, [], ◌∷◌, ◌++◌}
use Rattle.wasm_tree.specs.declared.module.ValType.TheVariants.{I32}
use Rattle.wasm_tree.specs.declared.op.LoadOp.TheVariants as load
use Rattle.wasm_tree.specs.declared.op.StoreOp.TheVariants as store
use Rattle.wasm_tree.specs.declared.op.CompareOp.TheVariants as compare
use Rattle.wasm_tree.specs.declared.op.BinaryOp.TheVariants as binary
use Rattle.wasm_tree.specs.declared.instr.Instr.{Instr}
use Rattle.wasm_tree.specs.declared.instr.Instr.TheVariants as instr
use Rattle.memory_code.specs.Parts.{is_wide, load_of, store_of, part_size, parts_in, parts}
use Rattle.delay_lines.specs.declared.ring.RingPlace.{RingPlace}

-- the number of the oldest entry
abbrev pub cursor_code : RingPlace → List Instr
cursor_code ring = instr.I32Const (pos ring.cursor) ∷ instr.Load load.I32 (record { align = 0; offset = 0 }) ∷ []

-- how far the entry at the cursor is from the first
abbrev pub offset_code : RingPlace → List Instr
offset_code ring = cursor_code ring ++ instr.I32Const (pos ring.width) ∷ instr.Binary I32 binary.Mul ∷ []

-- the part of the entry at the cursor that begins so many bytes in it, to an address
abbrev pub oldest_part : RingPlace → ℕ → ℕ → List Instr
oldest_part ring to at =
    instr.I32Const (pos to) ∷ (offset_code ring
    ++ instr.Load (load_of (is_wide ring.width)) (record { align = 0; offset = ring.first + at })
    ∷ instr.Store (store_of (is_wide ring.width)) (record { align = 0; offset = at }) ∷ [])

-- the same from an address
abbrev pub push_part : RingPlace → ℕ → ℕ → List Instr
push_part ring from at =
    offset_code ring
    ++ instr.I32Const (pos from) ∷ instr.Load (load_of (is_wide ring.width)) (record { align = 0; offset = at })
    ∷ instr.Store (store_of (is_wide ring.width)) (record { align = 0; offset = ring.first + at }) ∷ []

-- the next number
abbrev pub next_code : RingPlace → List Instr
next_code ring = cursor_code ring ++ instr.I32Const (pos 1) ∷ instr.Binary I32 binary.Add ∷ []

-- 0 where the cursor is at the last entry, and else 1
abbrev pub before_last_code : RingPlace → List Instr
before_last_code ring = cursor_code ring ++ instr.I32Const (pos (ring.length - 1)) ∷ instr.Compare I32 compare.NotEqual ∷ []

-- the cursor moves on, from the last entry to the first
abbrev pub turn_code : RingPlace → List Instr
turn_code ring =
    instr.I32Const (pos ring.cursor)
    ∷ (next_code ring ++ (before_last_code ring ++ instr.Binary I32 binary.Mul ∷ instr.Store store.I32 (record { align = 0; offset = 0 }) ∷ []))

abbrev pub oldest_instrs : RingPlace → ℕ → List Instr
oldest_instrs ring to = parts (oldest_part ring to) (part_size (is_wide ring.width)) (parts_in ring.width)

abbrev pub push_instrs : RingPlace → ℕ → List Instr
push_instrs ring from = parts (push_part ring from) (part_size (is_wide ring.width)) (parts_in ring.width) ++ turn_code ring
