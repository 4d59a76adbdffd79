use Rattle.std.proofs.Common.{◌≡◌, ◌++◌, length, take, drop}
use Rattle.wasm_tree.specs.Slots.{scalars_of}
use Rattle.wasm_valid.proofs.scalars.read_scalars.Given as goal

abbrev pub invariant-loop-at : goal.invariant-loop-at
invariant-loop-at l = (length l.into ≡ length l.shape) × (take l.at l.into ++ scalars_of (drop l.at l.shape) l.rest ≡ scalars_of l.shape l.memory)
