use Rattle.std.proofs.Common.{take}
use Rattle.wasm_tree.specs.Section.{named_cmajor}
use Rattle.wasm_valid.specs.Described.{IsNamed}
use Rattle.wasm_valid.proofs.described.cmajor_sections.Given as goal

abbrev pub invariant-loop-custom : goal.invariant-loop-custom
invariant-loop-custom l = IsNamed (named_cmajor (take l.custom-index l.customs)) l.found
