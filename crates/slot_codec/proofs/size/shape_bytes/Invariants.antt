use Rattle.std.proofs.Common.{◌≡◌, ◌*◌, ◌≤◌, take}
use Rattle.wasm_tree.specs.Section.{shape_size}
use Rattle.slot_codec.proofs.size.shape_bytes.Given as goal

abbrev pub invariant-loop-kind : goal.invariant-loop-kind
invariant-loop-kind l = (l.size ≡ shape_size (take l.kind-index l.shape)) × (l.size ≤ 8 * l.kind-index)
