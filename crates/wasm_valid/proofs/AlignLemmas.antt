-- Powers of two that aren't above eight.
use Rattle.std.proofs.Common.{◌≡◌, ◌<◌, ◌≤◌, ◌^◌, ℕ, false, sym, arith}
use Rattle.std.specs.Prelude.{nat_le}
use Rattle.std.proofs.lemmas.Bool.{lt-leb}
use Rattle.std.proofs.Math.Nat.{pow-le-pow_right}

-- past 2 ^ 3 no power is at most eight
pub aligned : (align size : ℕ) → size ≤ 8 → (align ≡ 0 → ⊥) → (align ≡ 1 → ⊥) → (align ≡ 2 → ⊥) → (align ≡ 3 → ⊥) → false ≡ nat_le (2 ^ align) size
aligned align size le a b c d =
    let some : 0 < 2 = omega arith in
    let four : 4 ≤ align = omega arith in
    let e : 2 ^ 4 ≤ 2 ^ align = pow-le-pow_right {n = 2} some {i = 4} {j = align} four in
    sym (lt-leb (2 ^ align) size (omega (arith, e)))
