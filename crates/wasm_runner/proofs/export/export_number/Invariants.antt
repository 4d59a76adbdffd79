use Rattle.std.proofs.Common.{◌≡◌, drop}
use Rattle.wasm_tree.specs.Instance.{exported_as}
use Rattle.wasm_runner.proofs.export.export_number.Given as goal

abbrev pub invariant-loop-entry : goal.invariant-loop-entry
invariant-loop-entry l = exported_as l.name (drop l.entry-index l.exports) ≡ exported_as l.name l.exports
