-- Counts that stand still at a greatest number.
use Rattle.std.specs.Prelude.{◌≡◌, ℕ, zero, suc, ◌*◌, min}
use Rattle.std.proofs.Common.{arith}

pub held_product : (n s m : ℕ) → min (n * min s m) m ≡ min (n * s) m
held_product zero s m = grind arith
held_product (suc n) s m = grind arith
