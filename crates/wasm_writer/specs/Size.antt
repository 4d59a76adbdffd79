-- Sizes, counted as far as one asks for: the size of a section's contents is a number of 32 bits.
use Rattle.std.specs.Prelude.{ℕ, ◌^◌, min}

-- a size, or 2 ^ 32 where it is that or more
abbrev pub capped : ℕ → ℕ
capped size = min size (2 ^ 32)
