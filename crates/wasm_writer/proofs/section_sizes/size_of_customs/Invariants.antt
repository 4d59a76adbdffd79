use Rattle.std.proofs.Common.{◌≡◌, length, take}
use Rattle.std.specs.List.{flat_map}
use Rattle.wasm_writer.specs.Size.{capped}
use Rattle.wasm_writer.specs.Spelling.{custom_bytes}
use Rattle.wasm_writer.proofs.section_sizes.size_of_customs.Given as goal

abbrev pub invariant-loop-custom : goal.invariant-loop-custom
invariant-loop-custom l = l.size ≡ capped (length (flat_map custom_bytes (take l.custom-index l.customs)))
