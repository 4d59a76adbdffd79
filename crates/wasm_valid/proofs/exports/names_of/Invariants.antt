use Rattle.std.proofs.Common.{◌≡◌, take}
use Rattle.wasm_valid.specs.Exported.{entry_names}
use Rattle.wasm_valid.specs.Texts.{texts}
use Rattle.wasm_valid.proofs.exports.names_of.Given as goal

abbrev pub invariant-loop-entry : goal.invariant-loop-entry
invariant-loop-entry l = texts l.names.items ≡ entry_names (take l.entry-index l.exports)
