use Rattle.std.proofs.Common.{◌≡◌, ◌++◌, take, All}
use Rattle.std.specs.List.{flat_map}
use Rattle.wasm_tree.specs.Section.{slots_of, Spelled_slot}
use Rattle.wasm_writer.specs.Description.{slot_bytes}
use Rattle.wasm_writer.proofs.description.put_slots.Given as goal

abbrev pub invariant-loop-index : goal.invariant-loop-index
invariant-loop-index l =
    let before = take l.index (slots_of l.host l.addresses) in
    record {
      appended : l.out.items ≡ l.fn.out.items ++ flat_map slot_bytes before;
      spelled : All (λ slot. Spelled_slot slot (slot_bytes slot)) before;
    }
