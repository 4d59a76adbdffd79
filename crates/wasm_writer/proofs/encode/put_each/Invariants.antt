use Rattle.std.proofs.Common.{◌≡◌, ◌++◌, take, All}
use Rattle.std.specs.List.{flat_map}
use Rattle.wasm_writer.proofs.encode.put_each.Given as goal

abbrev pub invariant-loop-part : goal.invariant-loop-part
invariant-loop-part g l =
    let before = take l.part-index l.parts in
    record {
      appended : l.out.items ≡ l.fn.out.items ++ flat_map g.P.Encode.shortest before;
      spelled : All (λ part. g.P.Encode.spells part (g.P.Encode.shortest part)) before;
    }
