use Rattle.std.proofs.Common.{◌≡◌, ◌≤◌, ◌*◌, take}
use Rattle.wasm_tree.specs.Section.{shape_size}
use Rattle.wasm_valid.proofs.described.shape_bytes.Given as goal

abbrev pub invariant-loop-kind : goal.invariant-loop-kind
invariant-loop-kind l = (l.bytes ≡ shape_size (take l.kind-index l.shape)) × (l.bytes ≤ 8 * l.kind-index)
