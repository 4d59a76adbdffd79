use Rattle.std.proofs.Common.{◌≡◌, ◌++◌, take, All}
use Rattle.std.specs.List.{flat_map}
use Rattle.wasm_tree.specs.Spelled.{Custom_contents}
use Rattle.wasm_writer.specs.Spelling.{custom_bytes, custom_contents}
use Rattle.wasm_writer.proofs.writing.put_customs.Given as goal

abbrev pub invariant-loop-custom : goal.invariant-loop-custom
invariant-loop-custom l =
    let before = take l.custom-index l.customs in
    record {
      appended : l.out.items ≡ l.fn.out.items ++ flat_map custom_bytes before;
      spelled : All (λ custom. Custom_contents custom (custom_contents custom)) before;
    }
