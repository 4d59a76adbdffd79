use Rattle.std.proofs.Common.{◌<◌, ◌^◌, length, take, All}
use Rattle.wasm_writer.specs.Spelling.{custom_contents}
use Rattle.wasm_writer.proofs.writable.customs_fit.Given as goal

abbrev pub invariant-loop-custom : goal.invariant-loop-custom
invariant-loop-custom l = All (λ custom. length (custom_contents custom) < 2 ^ 32) (take l.custom-index l.customs)
