use Rattle.std.proofs.Common.{◌≡◌, ◌≤◌, length, drop}
use Rattle.wasm_runner.specs.Ends.{ends_at, AreMade}
use Rattle.wasm_runner.proofs.jump.fill.Given as goal

abbrev pub invariant-loop-at : goal.invariant-loop-at
invariant-loop-at l =
    (l.at ≤ l.from) × (l.from ≤ length l.code) × (drop l.from l.ends ≡ ends_at l.at (drop l.at l.code)) × AreMade l.code l.jumps l.at

abbrev pub decreases-loop-at : goal.decreases-loop-at
decreases-loop-at l = l.at
