use Rattle.wasm_writer.proofs.description.put_parameter.Goals as goal

pub returns-in-Some-clause-spelled : goal.returns-in-Some-clause-spelled
returns-in-Some-clause-spelled c = rw c.in-Some.is c.put_range.ensures.spelled
