-- The sizes of what stands in instructions.
use Rattle.std.proofs.Common.{◌<◌, ◌^◌, length, arith}
use Rattle.std.proofs.lemmas.List.{length-append}
use Rattle.wasm_tree.specs.declared.instr.LabelTable.{LabelTable}
use Rattle.wasm_writer.specs.Spelling.{unsigned_bytes, vector_bytes, table_bytes}
use Rattle.wasm_writer.proofs.Nonempty.{index_nonempty}
use Rattle.wasm_writer.proofs.Parts.{vector_count}

-- a table's labels are within its bytes
pub table_sizes : (table : LabelTable) → length (table_bytes table) < 2 ^ 32 → (length table.labels < 2 ^ 32) × (length (vector_bytes unsigned_bytes table.labels) < 2 ^ 32)
table_sizes table h =
    let whole = length-append (vector_bytes unsigned_bytes table.labels) (unsigned_bytes table.other) in
    let labels : length (vector_bytes unsigned_bytes table.labels) < 2 ^ 32 = omega (arith, whole) in
    (vector_count unsigned_bytes table.labels index_nonempty labels, labels)
