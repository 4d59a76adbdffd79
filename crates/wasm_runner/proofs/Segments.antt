-- The first memory, segment by segment.
use Rattle.std.proofs.Common.{◌≡◌, ◌≤◌, ◌+◌, ℕ, List, length, drop}
use Rattle.std.specs.Int.{w32, cast_unsigned}
use Rattle.wasm_tree.specs.declared.module.Segment.{Segment}
use Rattle.wasm_tree.specs.Instance.{with_segments}

abbrev pub IsInside : ℕ → Segment → Type 0
IsInside size segment = cast_unsigned w32 segment.offset + length segment.bytes ≤ size

-- what is left to write gives the memory that all segments give
pub record AreLeft (segments : List Segment) (i : ℕ) (first now : List ℕ) : Type 0 where
  pub same : with_segments (drop i segments) now ≡ with_segments segments first
  pub long : length now ≡ length first
