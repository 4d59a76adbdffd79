use Rattle.wasm_writer.proofs.description.put_interface.Goals as goal

pub returns-in-Single-clause-spelled : goal.returns-in-Single-clause-spelled
returns-in-Single-clause-spelled c = rw c.in-Single.is c.put_indexed.ensures.spelled

pub returns-in-Blocks-clause-spelled : goal.returns-in-Blocks-clause-spelled
returns-in-Blocks-clause-spelled c = rw c.in-Blocks.is c.put_blocks.ensures.spelled
