use Rattle.std.proofs.Common.{take}
use Rattle.std.specs.List.{AllByRecursion}
use Rattle.wasm_tree.specs.Section.{slots_of}
use Rattle.wasm_valid.specs.Described.{LiesWithin}
use Rattle.wasm_valid.proofs.described.lie_within.Given as goal

abbrev pub invariant-loop-at : goal.invariant-loop-at
invariant-loop-at l = AllByRecursion (λ slot. LiesWithin l.bytes l.block slot.end slot.address) (take l.at (slots_of l.host l.addresses))
