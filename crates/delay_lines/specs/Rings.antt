-- Rings in memory: docs/MODULE.md, "Delay lines".
use Rattle.std.specs.Prelude.{ℕ, zero, suc, ◌≡◌, ◌+◌, ◌*◌, ◌%◌, ◌^◌, ◌<◌, ◌≤◌, List, [], ◌∷◌, ◌++◌, All, length, take, drop, slice_index_or}
use Rattle.std.specs.Int.{w32, from_le_bytes}
use Rattle.wasm_steps.specs.Windows.{window, Apart}
use Rattle.delay_lines.specs.declared.ring.RingPlace.{RingPlace}

-- the entries from the cursor on, round the end
abbrev pub ring_of : {X : Type 0} → List X → ℕ → List X
ring_of xs cursor = drop cursor xs ++ take cursor xs

-- so many entries of this width, one after the other
abbrev pub entries_from : List ℕ → ℕ → ℕ → ℕ → List (List ℕ)
entries_from memory first width zero = []
entries_from memory first width (suc count) = window memory first width ∷ entries_from memory (first + width) width count

abbrev pub size_of : RingPlace → ℕ
size_of ring = ring.length * ring.width

abbrev pub cursor_of : RingPlace → List ℕ → ℕ
cursor_of ring memory = from_le_bytes w32 (window memory ring.cursor 4)

-- the last entries, as many as the ring has, the oldest first
abbrev pub line_of : RingPlace → List ℕ → List (List ℕ)
line_of ring memory = ring_of (entries_from memory ring.first ring.width ring.length) (cursor_of ring memory)

abbrev pub oldest_of : RingPlace → List ℕ → List ℕ
oldest_of ring memory = slice_index_or (line_of ring memory) 0 []

-- a ring can stand at these addresses: it has an entry, an entry is of whole words, and numbers are below 2^31
pub record IsPlace (ring : RingPlace) : Type 0 where
  pub some : 0 < ring.length
  pub few : ring.length < 2 ^ 31
  pub words : ring.width % 4 ≡ 0
  pub cursor : ring.cursor < 2 ^ 31
  pub entries : ring.first + size_of ring < 2 ^ 31

-- so many bytes from an address on are in memory, and none of them is one of the ring
pub record IsOutside (ring : RingPlace) (memory : List ℕ) (address size : ℕ) : Type 0 where
  pub room : address + size ≤ length memory
  pub cursor : Apart address size ring.cursor 4
  pub entries : Apart address size ring.first (size_of ring)

-- the ring stands in memory, whose bytes are bytes
pub record Stands (ring : RingPlace) (memory : List ℕ) : Type 0 where
  pub bytes : All (λ b. b < 256) memory
  pub cursor : cursor_of ring memory < ring.length
  pub cursor_room : ring.cursor + 4 ≤ length memory
  pub room : ring.first + size_of ring ≤ length memory
  pub apart : Apart ring.cursor 4 ring.first (size_of ring)
