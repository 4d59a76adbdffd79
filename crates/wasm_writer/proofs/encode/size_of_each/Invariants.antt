use Rattle.std.proofs.Common.{◌≡◌, take, length}
use Rattle.std.specs.List.{flat_map}
use Rattle.wasm_writer.specs.Size.{capped}
use Rattle.wasm_writer.proofs.encode.size_of_each.Given as goal

abbrev pub invariant-loop-part : goal.invariant-loop-part
invariant-loop-part g l = l.size ≡ capped (length (flat_map g.P.Encode.shortest (take l.part-index l.parts)))
