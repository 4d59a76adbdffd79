-- Sums over lists by what calls count.
use Rattle.std.specs.Prelude.{ℕ, ◌≡◌}
use Rattle.memory_layout.specs.Held.{held}

-- what a call gives at each value is what the function counts for it, held
abbrev pub CountsAs : {T : Type 0} → (T → ℕ → Type 0) → (T → ℕ) → Type 0
CountsAs {T} gives count = (x : T) (n : ℕ) → gives x n → n ≡ held (count x)
