-- Counts of calls that failed, found nothing or lacked memory. An object keeps each in 64 bits.
use Rattle.std.specs.Prelude.{ℕ, ◌+◌, ◌-◌, ◌^◌, ◌<◌, ◌≤◌, ◌⊎◌, nat_lt, if◌then◌else◌}

-- a count rose, or it stands at the greatest number of 64 bits, which it can't leave
abbrev pub Rose : ℕ → ℕ → Type 0
Rose old new = (old < new) ⊎ (2 ^ 64 - 1 ≤ old)

-- a count after one more: at the greatest number it stands still
abbrev pub raised : ℕ → ℕ
raised count = if nat_lt count (2 ^ 64 - 1) then count + 1 else count
