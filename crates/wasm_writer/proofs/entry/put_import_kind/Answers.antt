use Rattle.wasm_writer.proofs.entry.put_import_kind.Goals as goal

pub returns-in-Function-clause-spelled : goal.returns-in-Function-clause-spelled
returns-in-Function-clause-spelled c = rw c.in-Function.is c.put_indexed.ensures.spelled

pub returns-in-Memory-clause-spelled : goal.returns-in-Memory-clause-spelled
returns-in-Memory-clause-spelled c = rw c.in-Memory.is c.put_memory_kind.ensures.spelled
