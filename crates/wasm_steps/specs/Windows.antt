-- Parts of memory: Core Specification 1.0, 4.4.4.
use Rattle.std.specs.Prelude.{ℕ, ◌+◌, ◌≤◌, List, take, drop}
use Rattle.std.specs.Int.{Width, w8, w16, w32, w64, w128}

-- so many bytes from an address on
abbrev pub window : List ℕ → ℕ → ℕ → List ℕ
window memory address size = take size (drop address memory)

-- two parts of memory that have no byte in common, the first below the second or above it
pub data Apart (first first_size second second_size : ℕ) : Type 0 where
  Below : first + first_size ≤ second → Apart first first_size second second_size
  Above : second + second_size ≤ first → Apart first first_size second second_size

-- the widths that loads and stores have
abbrev pub IsStored : Width → Type 0
IsStored w8 = Unit {0}
IsStored w16 = Unit {0}
IsStored w32 = Unit {0}
IsStored w64 = Unit {0}
IsStored w128 = ⊥
