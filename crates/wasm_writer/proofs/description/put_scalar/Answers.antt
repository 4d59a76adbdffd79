use Rattle.wasm_writer.proofs.description.put_scalar.Goals as goal

pub returns-in-Wrap-clause-spelled : goal.returns-in-Wrap-clause-spelled
returns-in-Wrap-clause-spelled c = rw c.in-Wrap.is c.put_indexed.ensures.spelled

pub returns-in-Clamp-clause-spelled : goal.returns-in-Clamp-clause-spelled
returns-in-Clamp-clause-spelled c = rw c.in-Clamp.is c.put_indexed-in-Clamp.ensures.spelled
