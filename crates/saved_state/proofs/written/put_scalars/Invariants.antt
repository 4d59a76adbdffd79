use Rattle.std.proofs.Common.{◌≡◌, ℕ, ◌<◌, ◌++◌, length, take, get_or, pos}
use Rattle.std.specs.List.{flat_map}
use Rattle.saved_state.specs.Version2.{IsScalar, count_bytes, scalar_bytes}
use Rattle.saved_state.proofs.written.put_scalars.Given as goal

abbrev pub invariant-loop-scalar : goal.invariant-loop-scalar
invariant-loop-scalar l =
    (l.out.items ≡ l.fn.out.items ++ (count_bytes (length l.scalars) ++ flat_map scalar_bytes (take l.scalar-index l.scalars))) ×
    ((k : ℕ) → k < l.scalar-index → IsScalar (get_or l.scalars k (pos 0)))
