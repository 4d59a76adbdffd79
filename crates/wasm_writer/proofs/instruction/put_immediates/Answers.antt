use Rattle.std.proofs.Common.{inl, inr}
use Rattle.wasm_writer.proofs.instruction.put_immediates.Goals as goal

pub returns-in-BrTable-clause-spelled : goal.returns-in-BrTable-clause-spelled
returns-in-BrTable-clause-spelled c = rw (c.in-BrTable.is, ← c.get.ensures) c.put_table.ensures.spelled

pub returns-in-Load-clause-spelled : goal.returns-in-Load-clause-spelled
returns-in-Load-clause-spelled c =
    elim c.in-Load.is [
      | inl load ↦ rw load.1 c.put_memory_argument.ensures.spelled
      | inr store ↦ rw store.1 c.put_memory_argument.ensures.spelled
    ]
